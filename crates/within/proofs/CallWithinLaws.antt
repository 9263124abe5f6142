-- The contract of the pass within an allowance, from the lone pass's: a refusal of the pass (`within_refused`), success (`within_done`), and 15 (`within_exceeded`). Its place is small where the pass's is (`within_place`).
use mathlib.Core.Path.{◌≡◌, refl, sym, ◌∙◌}
use mathlib.Core.Bool.{false}
use mathlib.Core.List.{List}
use Prim.Native.Nat.{ℕ, ◌+◌, ◌<◌}
use native.Mathlib.Omega.{arith}
use Rattle.std.proofs.lemmas.Bool.{lt-ltb, le-ltb}
use lib.Dec.{eqb, ltb}
use lib.ListN.{length, replicate}
use Rattle.std.specs.Prelude.{Ok, Err}
use Rattle.theory.specs.Accepted.{Edition}
use Rattle.refusals.specs.Answer.{accept, refuse, refuse_if}
use Rattle.refusals.specs.Refusals.{refused_as}
use Rattle.refusals.specs.declared.Refusal.{Refusal}
use Rattle.refusals.specs.declared.Refusal.TheVariants.{Edition as EditionRefused, Counts, Size, Node, Producer, Link, Back, Leaf, Head, Entries}
use Rattle.refusals.proofs.PlaceLaws.{if_place, or_place}
use Rattle.founded.specs.declared.CallError.{CallError}
use Rattle.founded.specs.declared.CallError.TheVariants.{Refused, Lengths, Work, Absorbed}
use Rattle.founded.specs.Answers.{turned_as, complete_answer, Completes}
use Rattle.within.specs.WithinAnswers.{within_answer, work_of, CompletesWithin}

-- the pass's refusals are neither 0 nor 15
graph_number : (e : Refusal) → (eqb (refused_as e).number 0 ≡ false) × (eqb (refused_as e).number 15 ≡ false)
graph_number EditionRefused = (refl, refl)
graph_number Counts = (refl, refl)
graph_number Size = (refl, refl)
graph_number (Node k) = (refl, refl)
graph_number (Producer k) = (refl, refl)
graph_number (Link k) = (refl, refl)
graph_number (Back k) = (refl, refl)
graph_number (Leaf k) = (refl, refl)
graph_number (Head k) = (refl, refl)
graph_number Entries = (refl, refl)

call_number : (e : CallError) → (eqb (turned_as e).number 0 ≡ false) × (eqb (turned_as e).number 15 ≡ false)
call_number (Refused e) = graph_number e
call_number Lengths = (refl, refl)
call_number Work = (refl, refl)
call_number (Absorbed n) = (refl, refl)

module _ {ed : Edition} {ws never atom_never output work work' : List ℕ} (allowance : ℕ) where
  pub within_refused : {output' : List ℕ} (e : CallError) → Completes ed ws never atom_never output work output' work' (Err e) → CompletesWithin ed ws never atom_never output work allowance output' work' allowance (turned_as e)
  unfolding within_answer
  within_refused e h = let k = call_number e in record {
    answer = h.answer ∙ sym (rw (← h.answer, k.0));
    leaves = record { list = rw k.1 h.leaves; meter = rw (k.0, k.1) };
  }

  pub within_done : {output' : List ℕ} {left : ℕ} → Completes ed ws never atom_never output work output' work' (Ok (tt {0})) → left + work_of ws never atom_never ≡ allowance → CompletesWithin ed ws never atom_never output work allowance output' work' left accept
  unfolding within_answer
  within_done h p = record {
    answer = rw (← h.answer, le-ltb allowance (work_of ws never atom_never) (omega arith)) refl;
    leaves = record { list = h.leaves; meter = omega arith };
  }

  pub within_exceeded : accept ≡ complete_answer ed ws (length never) (length atom_never) (length output) (length work) → allowance < work_of ws never atom_never → work' ≡ replicate (length work) 0
      → CompletesWithin ed ws never atom_never output work allowance output work' 0 (refuse 15 0)
  unfolding within_answer
  within_exceeded a h z = record {
    answer = rw (← a, lt-ltb allowance (work_of ws never atom_never) h) refl;
    leaves = record { list = record { output_after = refl; work_after = z; demand_3 = λ q. absurd (omega arith) }; meter = refl };
  }

pub within_place : {lim : ℕ} → 0 < lim → (ed : Edition) (ws : List ℕ) (n a o w allowance count : ℕ) → (complete_answer ed ws n a o w).place < lim → (within_answer ed ws n a o w allowance count).place < lim
unfolding within_answer
within_place some ed ws n a o w allowance count h = or_place some (complete_answer ed ws n a o w) (refuse_if 15 (ltb allowance count)) h (if_place some 15 (ltb allowance count))
