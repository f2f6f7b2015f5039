-- What a match on the kind of a code leaves: a kind that it named is not the code's where another arm was taken. Assumes nothing.
use mathlib.Core.Path.{◌≡◌, sym, ap, subst, ◌∙◌}
use mathlib.Core.Bool.{not}
use mathlib.Core.List.{List}
use Prim.Native.Nat.{ℕ}
use denote.Enum.Declared.{tag_of}
use lib.Dec.{T}
use mir.Val.{has_key}
use types.Run.{OneOf, miss}
use Rattle.descriptor.specs.Codes.{Kind, kind_of}
use Rattle.descriptor.specs.inner.Steps.{kind_is}
use Rattle.descriptor.specs.declared.codes.Kind.{Kind as CodeKind}
use Rattle.descriptor.specs.contracts.codes.Kind.{the_type}

-- v is the name of the code's kind, and its number is one of ks, among which k's is not
pub not-kind : (k : Kind) (ks : List ℕ) → T (not (has_key ks (tag_of the_type (kind_is k)))) → (v : CodeKind) (code c : ℕ) → v ≡ kind_is (kind_of code)
    → code ≡ c → OneOf ks (tag_of the_type v) → k ≡ kind_of c → ⊥
not-kind k ks out v code c is same keys e =
    miss ks _ out (subst (λ (x : CodeKind). OneOf ks (tag_of the_type x)) (is ∙ ap (λ (x : ℕ). kind_is (kind_of x)) same ∙ ap kind_is (sym e)) keys)
