-- Rows that serve a worklist: the rows of a theory (`serves_all`), and any rows that serve, with the entries to vertices that wait for nothing left out
-- (`serves_kept`). Entries that are left in a list; and a list behind another, without repeats.
use mathlib.Core.Path.{◌≡◌, refl, sym, ap, ◌∙◌, subst}
use mathlib.Core.Logic.{◌⊎◌, inl, inr}
use mathlib.Core.Bool.{Bool, true, false, cond}
use mathlib.Core.List.Memᴰ
use mathlib.Core.List.{List, [], ◌∷◌, ◌++◌}
use Prim.Native.Nat.{ℕ, suc, ◌<◌}
use native.Mathlib.Omega.{arith}
use native.Mathlib.Decide.{ℕ_discrete}
use Rattle.std.specs.Prelude.{filter}
use Rattle.theory.specs.Sets.{Is, Set, Mem, everyone}
use Rattle.theory.specs.Counts.{count_in, occ, Distinct}
use Rattle.theory.specs.Theory.{Theory, WellFormed}
use Rattle.theory.specs.Edges.{vertices, preds}
use Rattle.theory.specs.Rows.{succs}
use Rattle.theory.specs.Closure.{Mode, waiting}
use Rattle.theory.specs.Worklist.{Serves}
use Rattle.theory.proofs.SetLaws.{bool_cases, clash}
use Rattle.theory.proofs.CountLaws.{occ_same, occ_other, occ_mem, mem_occ}
use Rattle.theory.proofs.RowLaws.{succs_preds, succs_low}

-- ---- the entries that lie in a set

pub kept_in : (s : Set) (x : ℕ) (l : List ℕ) → Is (s x) → filter s (x ∷ l) ≡ x ∷ filter s l
kept_in s x l e = ap (λ (y : Bool). cond y (x ∷ filter s l) (filter s l)) e

pub kept_out : (s : Set) (x : ℕ) (l : List ℕ) → s x ≡ false → filter s (x ∷ l) ≡ filter s l
kept_out s x l e = ap (λ (y : Bool). cond y (x ∷ filter s l) (filter s l)) e

-- a member of the set is left as often as it was there
pub kept_occ : (s : Set) (v : ℕ) → Is (s v) → (l : List ℕ) → occ v (filter s l) ≡ occ v l
unfolding count_in
kept_occ s v h [] = refl
kept_occ s v h (x ∷ l) = go (bool_cases (s x)) (ℕ_discrete v x) (kept_occ s v h l)
  where
    go : (s x ≡ true) ⊎ (s x ≡ false) → Dec (v ≡ x) → occ v (filter s l) ≡ occ v l → occ v (filter s (x ∷ l)) ≡ occ v (x ∷ l)
    go (inl e) (yes q) ih = rw (kept_in s x l e, ← q, occ_same v (filter s l), occ_same v l) (ap suc ih)
    go (inl e) (no n) ih = rw (kept_in s x l e, occ_other v x (filter s l) n, occ_other v x l n) ih
    go (inr e) (yes q) ih = clash (subst (λ (z : ℕ). Is (s z)) q h) e
    go (inr e) (no n) ih = rw (kept_out s x l e, occ_other v x l n) ih

pub kept_mem : (s : Set) (v : ℕ) (l : List ℕ) → Mem v (filter s l) → Mem v l × Is (s v)
kept_mem s v [] m = absurd (Memᴰ.not-nil m)
kept_mem s v (x ∷ l) m = go (bool_cases (s x)) (kept_mem s v l)
  where
    at : Is (s x) → (v ≡ x) ⊎ Mem v (filter s l) → (Mem v (filter s l) → Mem v l × Is (s v)) → Mem v (x ∷ l) × Is (s v)
    at e (inl q) ih = (Memᴰ.head q, subst (λ (z : ℕ). Is (s z)) (sym q) e)
    at e (inr k) ih = let r = ih k in (Memᴰ.tail (r.0), r.1)

    go : (s x ≡ true) ⊎ (s x ≡ false) → (Mem v (filter s l) → Mem v l × Is (s v)) → Mem v (x ∷ l) × Is (s v)
    go (inl e) ih = at e (Memᴰ.cases_cons (rw (kept_in s x l e) at m)) ih
    go (inr e) ih = let r = ih (rw (kept_out s x l e) at m) in (Memᴰ.tail (r.0), r.1)

pub kept_there : (s : Set) {v : ℕ} {l : List ℕ} → Mem v l → Is (s v) → Mem v (filter s l)
kept_there s {v} {l} m e = let o = kept_occ s v e l in let k = occ_mem m in mem_occ v (filter s l) (omega arith)

pub kept_once : (s : Set) (l : List ℕ) → Distinct l → Distinct (filter s l)
kept_once s [] d = tt
kept_once s (x ∷ l) d = go (bool_cases (s x)) (kept_once s l (d.1))
  where
    go : (s x ≡ true) ⊎ (s x ≡ false) → Distinct (filter s l) → Distinct (filter s (x ∷ l))
    go (inl e) ih = rw (kept_in s x l e) ((λ m. d.0 (let r = kept_mem s x l m in r.0)), ih)
    go (inr e) ih = rw (kept_out s x l e) ih

-- ---- rows that serve

pub serves_kept : (b : ℕ) (mode : ℕ → Mode) (pred : ℕ → List ℕ) {u : ℕ} {row : List ℕ} (s : Set) → ((v : ℕ) → v < b → Is (waiting (mode v)) → Is (s v)) → Serves b mode pred u row → Serves b mode pred u (filter s row)
serves_kept b mode pred {u} {row} s waits h = record {
  leads = λ v m. h.leads v (kept_mem s v row m).0;
  each = λ v l e. kept_occ s v (waits v l e) row ∙ h.each v l e;
}

-- the row of u has v as often as the list of v has u
pub serves_all : (th : Theory) → WellFormed th → (mode : ℕ → Mode) (u : ℕ) → Serves (vertices th) mode (preds th everyone) u (succs th u)
unfolding vertices
serves_all th ok mode u = record {
  leads = λ v m. let l = succs_low th ok u v m in let o = succs_preds th ok u v l in let k = occ_mem m in (l, mem_occ u (preds th everyone v) (omega arith));
  each = λ v l e. succs_preds th ok u v l;
}

-- ---- a list and then another, without repeats

pub mem_left : (k l : List ℕ) {x : ℕ} → Mem x k → Mem x (k ++ l)
mem_left [] l m = absurd (Memᴰ.not-nil m)
mem_left (y ∷ k) l {x} m = go (Memᴰ.cases_cons m) (λ i. mem_left k l i)
  where
    go : (x ≡ y) ⊎ Mem x k → (Mem x k → Mem x (k ++ l)) → Mem x (y ∷ (k ++ l))
    go (inl e) ih = Memᴰ.head e
    go (inr i) ih = Memᴰ.tail (ih i)

pub mem_right : (k l : List ℕ) {x : ℕ} → Mem x l → Mem x (k ++ l)
mem_right [] l m = m
mem_right (y ∷ k) l m = Memᴰ.tail (mem_right k l m)

pub distinct_apart : (k l : List ℕ) → Distinct (k ++ l) → {x : ℕ} → Mem x k → Mem x l → ⊥
distinct_apart [] l d m i = Memᴰ.not-nil m
distinct_apart (y ∷ k) l d {x} m i = go (Memᴰ.cases_cons m) (λ j n. distinct_apart k l (d.1) j n)
  where
    go : (x ≡ y) ⊎ Mem x k → (Mem x k → Mem x l → ⊥) → ⊥
    go (inl e) ih = d.0 (subst (λ (z : ℕ). Mem z (k ++ l)) e (mem_right k l i))
    go (inr j) ih = ih j i

pub distinct_first : (k l : List ℕ) → Distinct (k ++ l) → Distinct k
distinct_first [] l d = tt
distinct_first (y ∷ k) l d = ((λ m. d.0 (mem_left k l m)), distinct_first k l (d.1))

pub distinct_both : (k l : List ℕ) → Distinct k → Distinct l → ((x : ℕ) → Mem x k → Mem x l → ⊥) → Distinct (k ++ l)
distinct_both [] l d e h = e
distinct_both (y ∷ k) l d e h = ((λ m. go (Memᴰ.append_cases k m)), distinct_both k l (d.1) e (λ x m i. h x (Memᴰ.tail m) i))
  where
    go : Mem y k ⊎ Mem y l → ⊥
    go (inl m) = d.0 m
    go (inr m) = h y (Memᴰ.head refl) m
