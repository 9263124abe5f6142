-- The kind table's rule, proved once over the whole table: row k says what the definitions say of kind k (`table_says`); and which kind is absorbed
-- (`absorbed_is`).
use mathlib.Core.Path.{◌≡◌, refl}
use mathlib.Core.Bool.{Bool, true, false, not}
use mathlib.Core.List.{List, [], ◌∷◌}
use Prim.Native.Nat.{ℕ, zero, suc, ◌≤◌}
use native.Mathlib.Omega.{arith}
use lib.Dec.{eqb}
use lib.ListN.{get_or}
use Rattle.theory.specs.Sets.{Is, any_below}
use Rattle.theory.specs.Theory.{joins, absorbed}
use Rattle.theory.specs.Words.{kind_of}
use Rattle.theory.proofs.SetLaws.{clash, below_holds}
use Rattle.graph.specs.Kinds.{takes_operand, waits_for_one, waits_for_all, starts_true, row_of}

-- `KINDS` of the code
abbrev pub kinds : List (List ℕ)
kinds =
    (0 ∷ 0 ∷ 0 ∷ 0 ∷ 0 ∷ [])
    ∷ (1 ∷ 0 ∷ 1 ∷ 0 ∷ 0 ∷ [])
    ∷ (0 ∷ 1 ∷ 0 ∷ 1 ∷ 0 ∷ [])
    ∷ (0 ∷ 1 ∷ 1 ∷ 0 ∷ 0 ∷ [])
    ∷ (0 ∷ 0 ∷ 0 ∷ 0 ∷ 1 ∷ [])
    ∷ (0 ∷ 0 ∷ 0 ∷ 0 ∷ 1 ∷ [])
    ∷ (0 ∷ 0 ∷ 0 ∷ 0 ∷ 1 ∷ [])
    ∷ (0 ∷ 0 ∷ 0 ∷ 0 ∷ 0 ∷ [])
    ∷ []

abbrev differ : Bool → Bool → Bool
differ true b = not b
differ false b = b

agree : (a b : Bool) → (Is (differ a b) → ⊥) → a ≡ b
agree true true h = refl
agree true false h = absurd (h refl)
agree false true h = absurd (h refl)
agree false false h = refl

-- row k is wrong in column j
abbrev wrong : ℕ → ℕ → Bool
wrong k j = differ (eqb (get_or (get_or kinds k []) j 0) 1) (get_or (row_of (kind_of k)) j false)

none_wrong : any_below 8 (λ k. any_below 5 (wrong k)) ≡ false
unfolding any_below kind_of joins takes_operand waits_for_one waits_for_all starts_true
none_wrong = refl

pub table_says : (k j : ℕ) → k ≤ 7 → j ≤ 4 → eqb (get_or (get_or kinds k []) j 0) 1 ≡ get_or (row_of (kind_of k)) j false
table_says k j a b =
    agree _ _ (λ w. clash (below_holds 8 (λ m. any_below 5 (wrong m)) k (omega arith) (below_holds 5 (wrong k) j (omega arith) w)) none_wrong)

-- kind 7 is the absorbed one
pub absorbed_is : (k : ℕ) → k ≤ 7 → absorbed (kind_of k) ≡ eqb k 7
unfolding absorbed kind_of
absorbed_is zero h = refl
absorbed_is (suc zero) h = refl
absorbed_is (suc (suc zero)) h = refl
absorbed_is (suc (suc (suc zero))) h = refl
absorbed_is (suc (suc (suc (suc zero)))) h = refl
absorbed_is (suc (suc (suc (suc (suc zero))))) h = refl
absorbed_is (suc (suc (suc (suc (suc (suc zero)))))) h = refl
absorbed_is (suc (suc (suc (suc (suc (suc (suc zero))))))) h = refl
absorbed_is (suc (suc (suc (suc (suc (suc (suc (suc k)))))))) h = absurd (omega arith)
