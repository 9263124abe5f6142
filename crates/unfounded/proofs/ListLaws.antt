-- The contract from what it shares with the pass (`lists`); the bits of a successful call's output are the list (`list_all`), and from the two contracts alone: each atom on the old list is on this one (`old_inside`).
use mathlib.Core.Path.{◌≡◌}
use mathlib.Core.List.{List}
use Prim.Native.Nat.{ℕ}
use borrow.Author.Tests.{eq-eqb}
use lib.ListN.{length, get_or}
use Rattle.std.specs.Prelude.{Result, Ok}
use Rattle.theory.specs.Sets.{Set, ◌⊆◌}
use Rattle.theory.specs.Words.{theory_of, bit_at}
use Rattle.theory.specs.Accepted.{Edition}
use Rattle.theory.specs.EveryAtom.{missing_all}
use Rattle.theory.proofs.EveryAtomLaws.{all_parts}
use Rattle.theory.proofs.GreatestLaws.{listed_exactly, missing_listed}
use Rattle.mask.specs.Mask.{pack}
use Rattle.founded.specs.declared.CallError.{CallError}
use Rattle.founded.specs.Answers.{call_of, bad_lengths, bad_work, complete_answer, Completes}
use Rattle.founded.proofs.OutcomeLaws.{Answered}
use Rattle.founded.proofs.OutputLaws.{set_list}
use Rattle.founded.proofs.DemandLaws.{list_missing}
use Rattle.unfounded.specs.Unproduced.{ListsUnfounded}

packed : (ws : List ℕ) (never atom_never : Set) → bit_at (pack (get_or ws 1 0) (missing_all (theory_of ws) never atom_never)) ≡ missing_all (theory_of ws) never atom_never
packed ws never atom_never = set_list ws (missing_all (theory_of ws) never atom_never) (λ a m. ((all_parts (theory_of ws) never atom_never a).0 m).0)

pub lists : {ed : Edition} {ws never atom_never output work output' work' : List ℕ} {r : Result (Unit {0}) CallError}
    → Answered ed ws (bad_lengths ws (length never) (length atom_never) (length output)) (bad_work ed ws (length work)) (missing_all (theory_of ws) (bit_at never) (bit_at atom_never)) output work output' work' (call_of r)
    → ((call_of r).number ≡ 0 → r ≡ Ok (tt {0})) → ListsUnfounded ed ws never atom_never output work output' work' r
unfolding complete_answer
lists {ws = ws} {never = never} {atom_never = atom_never} {r = r} h d = record {
  answer = h.answer;
  done = d;
  leaves = record {
    output_after = h.output_after;
    work_after = h.work_after;
    greatest = λ q a. rw (h.output_after, eq-eqb (call_of r).number 0 q, packed ws (bit_at never) (bit_at atom_never)) (listed_exactly (theory_of ws) (bit_at never) (bit_at atom_never) a);
  };
}

module _ {ed : Edition} {ws never atom_never output work output' work' : List ℕ} {r : Result (Unit {0}) CallError} (h : ListsUnfounded ed ws never atom_never output work output' work' r) (success : (call_of r).number ≡ 0) where
  list_all : bit_at output' ≡ missing_all (theory_of ws) (bit_at never) (bit_at atom_never)
  list_all = rw (h.leaves.output_after, eq-eqb (call_of r).number 0 success) (packed ws (bit_at never) (bit_at atom_never))

  pub old_inside : {output₁ work₁ list work₁' : List ℕ} {q : Result (Unit {0}) CallError} → Completes ed ws never atom_never output₁ work₁ list work₁' q → (call_of q).number ≡ 0 → bit_at list ⊆ bit_at output'
  old_inside c e = rw (list_missing c.leaves e, list_all) (missing_listed (theory_of ws) (bit_at never) (bit_at atom_never))
