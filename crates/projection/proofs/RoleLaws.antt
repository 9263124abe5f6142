-- A node's role by the kind table: each test of `read` settles it.
use mathlib.Core.Path.{◌≡◌, refl, sym, ap, ◌∙◌}
use mathlib.Core.Bool.{Bool, true, false, not, cond}
use mathlib.Core.List.{List, [], ◌∷◌}
use Prim.Native.Nat.{ℕ, zero, suc, ◌+◌}
use native.Mathlib.Omega.{arith}
use lib.Dec.{eqb}
use lib.ListN.{length}
use Rattle.theory.specs.Sets.{Set, filled}
use Rattle.theory.specs.Theory.{Theory, Kind, False, Atom, And, Or, Opaque, Absorbed}
use Rattle.theory.specs.Roles.{kind_seed, kind_role, seed, role}
use Rattle.theory.proofs.SetLaws.{is_false, eq_is}
use Rattle.graph.specs.Kinds.{takes_operand, waits_for_one, waits_for_all, starts_true}

-- by a kind's row in the table
abbrev seed_by : (starts operand one all : Bool) → Bool → List ℕ → Bool
seed_by starts operand one all m l = cond starts true (cond operand (not m) (cond one false (cond all (not (filled l)) false)))

abbrev role_by : (starts operand one all : Bool) → Bool → ℕ → List ℕ → ℕ
role_by starts operand one all m a l = cond starts 0 (cond operand (cond m 1 (a + 1)) (cond one 1 (cond all (length l) 0)))

seed_table : (k : Kind) (m : Bool) (l : List ℕ) → kind_seed k m l ≡ seed_by (starts_true k) (takes_operand k) (waits_for_one k) (waits_for_all k) m l
unfolding kind_seed starts_true takes_operand waits_for_one waits_for_all
seed_table False m l = refl
seed_table Atom m l = refl
seed_table And m l = refl
seed_table Or m l = refl
seed_table Opaque m l = refl
seed_table Absorbed m l = refl

role_table : (k : Kind) (m : Bool) (a : ℕ) (l : List ℕ) → kind_role k m a l ≡ role_by (starts_true k) (takes_operand k) (waits_for_one k) (waits_for_all k) m a l
unfolding kind_role starts_true takes_operand waits_for_one waits_for_all
role_table False m a l = refl
role_table Atom m a l = refl
role_table And m a l = refl
role_table Or m a l = refl
role_table Opaque m a l = refl
role_table Absorbed m a l = refl

-- for a kind whose tests are known
role_told : (k : Kind) {starts operand one all : Bool} → starts_true k ≡ starts → takes_operand k ≡ operand → waits_for_one k ≡ one → waits_for_all k ≡ all → (m : Bool) (a : ℕ) (l : List ℕ)
    → (kind_seed k m l ≡ seed_by starts operand one all m l) × (kind_role k m a l ≡ role_by starts operand one all m a l)
role_told k s o q e m a l = rw (← s, ← o, ← q, ← e) (seed_table k m l, role_table k m a l)

pub read_told : (th : Theory) (marked : Set) (n : ℕ) {k : Kind} → k ≡ th.kind n → {starts operand one all : Bool} → starts_true k ≡ starts → takes_operand k ≡ operand → waits_for_one k ≡ one → waits_for_all k ≡ all
    → (seed th marked n ≡ seed_by starts operand one all (marked (th.operand n)) (th.leaves n)) × (role th marked n ≡ role_by starts operand one all (marked (th.operand n)) (th.operand n) (th.leaves n))
unfolding seed role
read_told th marked n {k} e s o q a = rw (sym e) (role_told k s o q a (marked (th.operand n)) (th.operand n) (th.leaves n))

-- an empty list, by its length
pub none_filled : (l : List ℕ) → eqb (length l) 0 ≡ not (filled l)
unfolding filled
none_filled [] = refl
none_filled (x ∷ l) = is_false (eqb (suc (length l)) 0) (λ p. let e = eq_is (suc (length l)) 0 p in omega arith)
