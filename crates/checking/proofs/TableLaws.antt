-- A row of the table that refuses (`row_told`) or passes (`row_passed`), what comes of a search that a row made (`passed_clear`), and that a place found is low (`finds_low`).
use mathlib.Core.Path.{◌≡◌, refl, sym, ap, ◌∙◌}
use mathlib.Core.Bool.{Bool}
use mathlib.Core.List.{List, ◌∷◌}
use Prim.Native.Nat.{ℕ, suc, ◌+◌, ◌≤◌, ◌<◌}
use native.Mathlib.Omega.{arith}
use Rattle.std.specs.Prelude.{Option, Some, None, IfSome, Result}
use Rattle.std.specs.Result.{IsErrAnd}
use Rattle.refusals.specs.Search.{Clear, Finds}
use Rattle.refusals.specs.Answer.{Answer, accept, refuse_first, first_refusal}
use Rattle.refusals.specs.Refusals.{refused_as, answer_of}
use Rattle.refusals.specs.declared.Refusal.{Refusal}
use Rattle.refusals.proofs.SearchLaws.{row_clear}
use Rattle.refusals.proofs.RefusedLaws.{number_some, passed_on}

-- `?` passes on the refusal of the first row
pub row_told : {a : Answer} (rows : List Answer) (e : Refusal) (r : Result (Unit {0}) Refusal) → IsErrAnd r (λ x. x ≡ e) → refused_as e ≡ a → answer_of r ≡ first_refusal (a ∷ rows)
unfolding first_refusal
row_told rows e r h q = passed_on e r h ∙ rw (← q, number_some e) refl

-- a row that passes leaves the answer to the others
pub row_passed : {a : Answer} (rows : List Answer) → accept ≡ a → first_refusal (a ∷ rows) ≡ first_refusal rows
unfolding first_refusal
row_passed rows q = rw (← q) refl

pub passed_clear : (number : ℕ) (bad : ℕ → Bool) (from count : ℕ) {end : ℕ} → accept ≡ refuse_first (suc number) bad from count → from + count ≡ end → Clear bad from end
passed_clear number bad from count q e = row_clear bad number from count (sym (ap (λ (a : Answer). a.number) q)) e

pub finds_low : (bad : ℕ → Bool) (from end : ℕ) {lim : ℕ} (r : Option ℕ) → Finds bad from end r → end ≤ lim → IfSome r (λ i. i < lim)
finds_low bad from end None f h = tt
finds_low bad from end (Some i) f h = omega (arith, f.0)
