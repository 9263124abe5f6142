-- From the contract alone: two successful passes on one graph leave the same list, whatever output and work area held before, and whatever the masks have past the last number
-- (`same_list`; document 01: "Its contents on entry have no effect", "Bits past the last number are ignored").
use mathlib.Core.Path.{◌≡◌, sym, ◌∙◌, fun_ext}
use mathlib.Core.List.{List}
use Prim.Native.Nat.{ℕ}
use borrow.Author.Tests.{eq-eqb}
use lib.ListN.{get_or}
use Rattle.theory.specs.Words.{theory_of, bit_at}
use Rattle.theory.specs.Accepted.{Edition}
use Rattle.theory.specs.Founded.{missing}
use Rattle.theory.proofs.CutLaws.{SameCuts, missing_cuts}
use Rattle.mask.specs.Mask.{pack}
use Rattle.refusals.specs.Answer.{accept}
use Rattle.refusals.specs.Refusals.{graph_answer}
use Rattle.refusals.proofs.AcceptedLaws.{accepted}
use Rattle.founded.specs.declared.CallError.{CallError}
use Rattle.std.specs.Prelude.{Result}
use Rattle.founded.specs.Answers.{call_of, Completes}

list_words : {ed : Edition} {ws never atom_never output work output' work' : List ℕ} {r : Result (Unit {0}) CallError} → Completes ed ws never atom_never output work output' work' r → (call_of r).number ≡ 0
    → output' ≡ pack (get_or ws 1 0) (missing (theory_of ws) (bit_at never) (bit_at atom_never))
list_words {r = r} h e = rw (h.leaves.output_after, eq-eqb (call_of r).number 0 e)

pub same_list : {ed : Edition} {ws never other atom_never atom_other out₁ out₂ work₁ work₂ out₁' out₂' work₁' work₂' : List ℕ} {r s : Result (Unit {0}) CallError} → graph_answer ed ws ≡ accept
    → SameCuts (theory_of ws) (bit_at never) (bit_at other) (bit_at atom_never) (bit_at atom_other)
    → Completes ed ws never atom_never out₁ work₁ out₁' work₁' r → Completes ed ws other atom_other out₂ work₂ out₂' work₂' s → (call_of r).number ≡ 0 → (call_of s).number ≡ 0 → out₁' ≡ out₂'
same_list {ed} {ws} ok same h g e f =
    let q = fun_ext (missing_cuts (theory_of ws) (accepted ed ws ok).well_formed _ _ _ _ same) in
    list_words h e ∙ rw q (sym (list_words g f))
