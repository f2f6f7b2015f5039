-- A name that was read, compared with characters. Rests on the comparison of characters.
use mathlib.Core.Path.{◌≡◌, refl, sym, ap, ◌∙◌}
use mathlib.Core.Bool.{true, ◌&&◌}
use mathlib.Core.List.{List, [], ◌∷◌}
use Prim.Native.Nat.{ℕ, ◌<◌}
use borrow.Author.Tests.{eq-eqb, eqb-true}
use denote.Bor.{Bor}
use lib.Dec.{eqb}
use lib.Pointwise.{pointwise}
use Rattle.std.specs.Option.{MatchOption, option_eq}
use Rattle.std.specs.Prelude.{Option, None, Some, is_some}
use Rattle.descriptor.specs.Tree.{Name, unnamed, named}
use Rattle.canonical.specs.Equality.{same_list, same_chars}
use Rattle.canonical.proofs.Lists.{bool_same}
use Rattle.members.specs.inner.Names.{chars_at, named_at, has_chars}
use Rattle.members.proofs.Single.{named-at}

eqb-turned : (x y : ℕ) → eqb x y ≡ eqb y x
eqb-turned x y = bool_same (eqb x y) (eqb y x) (λ h. eq-eqb y x (sym (eqb-true x y h))) (λ h. eq-eqb x y (sym (eqb-true y x h)))

pointwise-same : (x y : List ℕ) → pointwise eqb x y ≡ same_chars y x
unfolding same_list
pointwise-same [] [] = refl
pointwise-same [] (y ∷ ys) = refl
pointwise-same (x ∷ xs) [] = refl
pointwise-same (x ∷ xs) (y ∷ ys) = λ i. eqb-turned x y i && pointwise-same xs ys i

-- whether it has these characters
pub name-compared : (o : Option (Bor (List ℕ))) (m : Name) (x : Bor (List ℕ)) → MatchOption o (m ≡ unnamed) (λ n. m ≡ named n.now)
    → has_chars x.now m ≡ option_eq (λ a b. pointwise eqb a.now b.now) o (Some x)
unfolding has_chars
name-compared None m x is = ap (has_chars x.now) is
name-compared (Some n) m x is = ap (has_chars x.now) is ∙ sym (pointwise-same n.now x.now)

-- and whether there is one
pub name-some : (o : Option (Bor (List ℕ))) (d : List ℕ) (x : ℕ) → 0 < x → MatchOption o (named_at d x ≡ unnamed) (λ n. named_at d x ≡ named n.now)
    → is_some o ≡ true
name-some (Some n) d x some is = refl
name-some None d x some is =
    let both : named (chars_at d x) ≡ unnamed = sym (named-at d x some) ∙ is in
    absurd (cc)

-- what the comparison of names finds its answer with
pub ruleset same_laws = (name-compared)
