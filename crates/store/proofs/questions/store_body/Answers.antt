-- `store_body` meets its contract: the bytes from the body's start on, as many as it is long.
use mathlib.Core.Path.{◌≡◌, ap, ◌∙◌}
use Prim.Native.Nat.{◌+◌}
use native.Mathlib.Omega.{arith}
use lib.Seq.{slice}
use Rattle.access.specs.declared.part.Part.{Part}
use Rattle.access.proofs.Parts.{cut-same}
use Rattle.store.specs.Questions.{found}
use Rattle.store.proofs.questions.store_body.Goals as goal

pub overflow_add-end : goal.overflow_add-end
overflow_add-end c = omega (arith, c.store_find-body.ensures.within)

pub slice_bounds-result-end : goal.slice_bounds-result-end
slice_bounds-result-end c = omega (arith, c.store_find-body.ensures.within)

pub returns : goal.returns
returns c =
    let a = c.args in
    let s = a.s.now in
    let body = c.store_find-body in
    let there : body.result.start + a.s.ref_ptr.1 ≡ a.s.ref_ptr.1 + (found s a.identifier).start = omega (arith, ap (λ (y : Part). y.start) body.ensures.value) in record {
      result_value = cut-same body.result.start body.result.length s body.ensures.within
          ∙ ap (λ (x : Part). slice x.start (x.start + x.length) s) body.ensures.value;
      place = λ j. (a.s.ref_ptr.0, there j);
    }
