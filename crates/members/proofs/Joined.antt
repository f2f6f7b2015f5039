-- The bytes of the members picked, written one after another. Rests on the laws of lists.
use mathlib.Core.Path.{◌≡◌, refl, sym, ap, subst, ◌∙◌}
use mathlib.Core.List.{List, [], ◌∷◌, ◌++◌, append-nil, append_assoc}
use Prim.Native.Nat.{ℕ, ◌+◌, ◌-◌, ◌≤◌, ◌<◌}
use native.Mathlib.Omega.{arith}
use lib.ListN.{length, get_or, take, drop, length-append, length-take, length-drop}
use Rattle.std.proofs.lemmas.List.{take_more, take_all}
use Rattle.std.proofs.lemmas.List.Folds.{length-flat_map-take}
use Rattle.std.proofs.lemmas.Grind.{flat_map-append}
use lib.Seq.{length-slice, take_at, drop_at, take-length, drop-length, drop-drop}
use borrow.Rule.Slice.PartMut.{put_mid}
use Rattle.canonical.proofs.Lists.{part_slice}
use Rattle.members.specs.inner.Joining.{start_bytes, picked_bytes, Copies}

-- bytes put after the front of the output, what is beyond them being kept
pub put_front : (front bytes out whole : List ℕ) (at n : ℕ) → at ≡ length front → n ≡ length bytes → whole ≡ front ++ drop at out
    → (part : List ℕ) → part ≡ take n bytes ++ drop n (take (length whole - at) (drop at whole))
    → put_mid at (length whole - at) whole part ≡ (front ++ bytes) ++ drop (at + n) out
put_front front bytes out whole at n ea en ew part ep =
    let rest : List ℕ = drop at out in
    let front-is : take at whole ≡ front = ap (take at) ew ∙ take_at front rest at (sym ea) in
    let rest-is : drop at whole ≡ rest = ap (drop at) ew ∙ drop_at front rest at (sym ea) in
    let left : length whole - at ≡ length rest = omega (arith, length-append front rest, ap length ew) in
    let kept : take (length whole - at) (drop at whole) ≡ rest = (λ i. take (left i) (rest-is i)) ∙ take-length rest in
    let over : drop (length whole - at) (drop at whole) ≡ [] = (λ i. drop (left i) (rest-is i)) ∙ drop-length rest in
    let all : take n bytes ≡ bytes = ap (λ (k : ℕ). take k bytes) en ∙ take-length bytes in
    (λ i. front-is i ++ (ep i ++ over i))
    ∙ (λ i. front ++ ((all i ++ drop n (kept i)) ++ []))
    ∙ ap (λ (l : List ℕ). front ++ l) (append-nil (bytes ++ drop n rest))
    ∙ sym (append_assoc front bytes (drop n rest))
    ∙ ap (λ (l : List ℕ). (front ++ bytes) ++ l) (drop-drop n at out)

-- one more member picked
pub picked-more : (s starts picks : List ℕ) (i : ℕ) → picked_bytes s starts (picks ++ i ∷ []) ≡ picked_bytes s starts picks ++ start_bytes s starts i
picked-more s starts picks i =
    flat_map-append (start_bytes s starts) picks (i ∷ []) ∙ ap (λ (l : List ℕ). picked_bytes s starts picks ++ l) (append-nil (start_bytes s starts i))

-- what the loop keeps: j members' bytes stand at the front
pub record CopyLoop (s starts picks before out : List ℕ) (at j : ℕ) : Type 0 where
  pub end : at ≡ length (picked_bytes s starts (take j picks))
  pub bytes : out ≡ picked_bytes s starts (take j picks) ++ drop at before

module _ (s starts picks before : List ℕ) (copies : Copies s starts picks) (room : length (picked_bytes s starts picks) ≤ length before) where
  pub copy-begin : CopyLoop s starts picks before before 0 0
  copy-begin = record { end = refl; bytes = refl }

  module _ (out : List ℕ) (at j : ℕ) (l : CopyLoop s starts picks before out at j) (long : length out ≡ length before) where
    module _ (more : j < length picks) (i : ℕ) (ei : i ≡ get_or picks j 0) where
      abbrev from : ℕ
      from = get_or starts i 0

      abbrev to : ℕ
      to = get_or starts (i + 1) 0

      pub copy-order : from ≤ to
      copy-order = subst (λ (m : ℕ). get_or starts m 0 ≤ get_or starts (m + 1) 0) (sym ei) (copies.order j more)

      pub copy-inside : to ≤ length s
      copy-inside = subst (λ (m : ℕ). get_or starts (m + 1) 0 ≤ length s) (sym ei) (copies.inside j more)

      part-is : take (to - from) (drop from s) ≡ start_bytes s starts i
      part-is = part_slice from to s

      size : length (start_bytes s starts i) ≡ to - from
      size = length-slice from to s copy-inside

      grown : picked_bytes s starts (take (j + 1) picks) ≡ picked_bytes s starts (take j picks) ++ start_bytes s starts i
      grown =
          ap (picked_bytes s starts) (take_more picks j 0 more ∙ ap (λ (n : ℕ). take j picks ++ n ∷ []) (sym ei))
          ∙ picked-more s starts (take j picks) i

      -- there is room for it
      pub copy-room : at + (to - from) ≤ length out
      copy-room =
          let fits = length-flat_map-take (start_bytes s starts) picks j 0 more in
          let same : length (start_bytes s starts (get_or picks j 0)) ≡ length (start_bytes s starts i) = ap (λ (n : ℕ). length (start_bytes s starts n)) (sym ei) in
          omega (arith, l.end, size)

      pub copy-fits : length (take (to - from) (drop from s)) ≤ length (take (length out - at) (drop at out))
      copy-fits = omega (arith, ap length part-is, size, length-take (length out - at) (drop at out), length-drop at out, copy-room)

      pub copy-again : (part : List ℕ)
          → part ≡ take (to - from) (drop from s) ++ drop (length (take (to - from) (drop from s))) (take (length out - at) (drop at out))
          → CopyLoop s starts picks before (put_mid at (length out - at) out part) (at + (to - from)) (j + 1)
      copy-again part ep =
          let bytes : List ℕ = start_bytes s starts i in
          let joined : List ℕ = picked_bytes s starts (take j picks) in
          let n : length (take (to - from) (drop from s)) ≡ to - from = ap length part-is ∙ size in
          let whole =
          ap (λ (x : List ℕ). x ++ drop (length (take (to - from) (drop from s))) (take (length out - at) (drop at out)))
          (sym (take-length (take (to - from) (drop from s)))) in
          record {
            end = omega (arith, ap length grown, length-append joined bytes, size, l.end);
            bytes =
                put_front joined bytes before out at (to - from) l.end (sym size) l.bytes part
                (ep ∙ whole ∙ (λ t. take (n t) (part-is t) ++ drop (n t) (take (length out - at) (drop at out))))
                ∙ ap (λ (x : List ℕ). x ++ drop (at + (to - from)) before) (sym grown);
          }

    pub copy-done : length picks ≤ j → out ≡ picked_bytes s starts picks ++ drop (length (picked_bytes s starts picks)) before
    copy-done done =
        let all : take j picks ≡ picks = take_all j picks done in
        l.bytes ∙ (λ t. picked_bytes s starts (all t) ++ drop ((l.end ∙ ap (λ (x : List ℕ). length (picked_bytes s starts x)) all) t) before)

-- what `copy_picked` finds its answers with
pub ruleset copy_laws = (copy-begin, copy-order, copy-fits, copy-again, copy-done)
