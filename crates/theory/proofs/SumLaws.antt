-- Sums below a bound: of a sum (`sum_add`), in the other order (`sum_swap`), in two parts (`sum_split`). Sums over a set and over a list without
-- repeats: members of the set sum up to no more than the set (`over_some`), all of them to as much (`over_all`), and so the list of its members (`over_members`).
use mathlib.Core.Path.{◌≡◌, refl, sym, ap, ap₂, ◌∙◌}
use mathlib.Core.Logic.{◌≢◌}
use mathlib.Core.Bool.{Bool, true, false, ◌||◌, cond}
use mathlib.Core.List.Memᴰ
use mathlib.Core.List.{List, [], ◌∷◌, ◌++◌}
use Prim.Native.Nat.{ℕ, zero, suc, ◌+◌, ◌*◌, ◌≤◌, ◌<◌, zero-le}
use native.Mathlib.Nat.{not-suc-le-zero}
use native.Mathlib.Omega.{arith}
use native.Mathlib.Decide.{ℕ_discrete}
use borrow.Author.Tests.{ne_eqb}
use Rattle.theory.specs.Sets.{Is, Set, Mem, any, member, members, sum_below}
use Rattle.theory.specs.Counts.{Distinct}
use Rattle.theory.proofs.SetLaws.{clash, is_false, mem_member, member_mem, same_test}
use Rattle.theory.proofs.CountLaws.{sum_le, sum_same}
use Rattle.theory.specs.Work.{sum_in}
use Rattle.theory.specs.Charge.{sum_over}

pub sum_none : (n : ℕ) (f : ℕ → ℕ) → ((i : ℕ) → i < n → f i ≡ 0) → sum_below n f ≡ 0
unfolding sum_below
sum_none zero f h = refl
sum_none (suc n) f h = let a = h n (omega arith) in let b = sum_none n f (λ i l. h i (omega arith)) in omega arith

pub sum_constant : (n k : ℕ) → sum_below n (λ i. k) ≡ n * k
unfolding sum_below
sum_constant zero k = omega arith
sum_constant (suc n) k = let h = sum_constant n k in omega arith

pub sum_add : (n : ℕ) (f g : ℕ → ℕ) → sum_below n (λ i. f i + g i) ≡ sum_below n f + sum_below n g
unfolding sum_below
sum_add zero f g = refl
sum_add (suc n) f g = let h = sum_add n f g in omega arith

pub sum_swap : (m n : ℕ) (f : ℕ → ℕ → ℕ) → sum_below m (λ i. sum_below n (λ j. f i j)) ≡ sum_below n (λ j. sum_below m (λ i. f i j))
unfolding sum_below
sum_swap zero n f = sym (sum_none n (λ j. 0) (λ j l. refl))
sum_swap (suc m) n f =
    let h = sum_swap m n f in
    let a = sum_add n (λ j. f m j) (λ j. sum_below m (λ i. f i j)) in
    omega arith

pub sum_split : (a n : ℕ) (f : ℕ → ℕ) → sum_below (a + n) f ≡ sum_below a f + sum_below n (λ i. f (a + i))
unfolding sum_below
sum_split a zero f = let e : a + 0 ≡ a = omega arith in ap (λ (k : ℕ). sum_below k f) e ∙ omega arith
sum_split a (suc n) f =
    let e : a + suc n ≡ suc (a + n) = omega arith in
    let h = sum_split a n f in
    ap (λ (k : ℕ). sum_below k f) e ∙ omega arith

-- ---- over a set

cond_le : (b : Bool) (x : ℕ) → cond b x 0 ≤ x
cond_le true x = omega arith
cond_le false x = zero-le

pub in_le : (n : ℕ) (s : Set) (f : ℕ → ℕ) → sum_in n s f ≤ sum_below n f
unfolding sum_in
in_le n s f = sum_le n (λ i. cond (s i) (f i) 0) f (λ i l. cond_le (s i) (f i))

pub in_same : (n : ℕ) (s t : Set) (f g : ℕ → ℕ) → ((i : ℕ) → i < n → s i ≡ t i) → ((i : ℕ) → i < n → f i ≡ g i) → sum_in n s f ≡ sum_in n t g
unfolding sum_in
in_same n s t f g h k = sum_same n (λ i. cond (s i) (f i) 0) (λ i. cond (t i) (g i) 0) (λ i l. ap₂ (λ (b : Bool) (x : ℕ). cond b x 0) (h i l) (k i l))

pub in_sub : (n : ℕ) (s t : Set) (f : ℕ → ℕ) → ((i : ℕ) → i < n → Is (s i) → Is (t i)) → sum_in n s f ≤ sum_in n t f
unfolding sum_in
in_sub n s t f h = sum_le n (λ i. cond (s i) (f i) 0) (λ i. cond (t i) (f i) 0) (λ i l. go (s i) (t i) (f i) (h i l))
  where
    go : (b c : Bool) (x : ℕ) → (Is b → Is c) → cond b x 0 ≤ cond c x 0
    go true true x p = omega arith
    go true false x p = clash (p refl) refl
    go false c x p = zero-le

-- t is s and the one number u more
pub in_more : (n : ℕ) (s t : Set) (f : ℕ → ℕ) (u : ℕ) → u < n → s u ≡ false → Is (t u) → ((x : ℕ) → x ≢ u → t x ≡ s x) → sum_in n t f ≡ f u + sum_in n s f
unfolding sum_in sum_below
in_more zero s t f u l out in' same = absurd (not-suc-le-zero l)
in_more (suc n) s t f u l out in' same = go (ℕ_discrete n u) (in_more n s t f u)
  where
    go : Dec (n ≡ u) → (u < n → s u ≡ false → Is (t u) → ((x : ℕ) → x ≢ u → t x ≡ s x) → sum_below n (λ i. cond (t i) (f i) 0) ≡ f u + sum_below n (λ i. cond (s i) (f i) 0))
        → cond (t n) (f n) 0 + sum_below n (λ i. cond (t i) (f i) 0) ≡ f u + (cond (s n) (f n) 0 + sum_below n (λ i. cond (s i) (f i) 0))
    go (yes e) rest =
        let a : cond (t n) (f n) 0 ≡ f u = ap (λ (z : ℕ). cond (t z) (f z) 0) e ∙ ap (λ (b : Bool). cond b (f u) 0) in' in
        let c : cond (s n) (f n) 0 ≡ 0 = ap (λ (z : ℕ). cond (s z) (f z) 0) e ∙ ap (λ (b : Bool). cond b (f u) 0) out in
        let d = sum_same n (λ i. cond (t i) (f i) 0) (λ i. cond (s i) (f i) 0) (λ i k. ap (λ (b : Bool). cond b (f i) 0) (same i (λ q. omega arith))) in
        omega arith
    go (no m) rest =
        let a : cond (t n) (f n) 0 ≡ cond (s n) (f n) 0 = ap (λ (b : Bool). cond b (f n) 0) (same n m) in
        let h = rest (omega arith) out in' same in
        omega arith

-- ---- over a list without repeats

member_other : (y x : ℕ) (l : List ℕ) → y ≢ x → member y (x ∷ l) ≡ member y l
unfolding member any
member_other y x l k = ap (λ (b : Bool). b || member y l) (ne_eqb y x k)

in_nothing : (n : ℕ) (f : ℕ → ℕ) → sum_in n (λ v. member v []) f ≡ 0
unfolding sum_in member any
in_nothing n f = sum_none n (λ i. 0) (λ i k. refl)

in_list : (n : ℕ) (f : ℕ → ℕ) (l : List ℕ) → Distinct l → ((x : ℕ) → Mem x l → x < n) → sum_in n (λ v. member v l) f ≡ sum_over f l
unfolding sum_over
in_list n f [] d low = in_nothing n f
in_list n f (x ∷ l) d low =
    let h = in_list n f l d.1 (λ y m. low y (Memᴰ.tail m)) in
    let a = in_more n (λ v. member v l) (λ v. member v (x ∷ l)) f x (low x (Memᴰ.head refl)) (is_false (member x l) (λ p. d.0 (member_mem x l p))) (mem_member (Memᴰ.head refl))
    (λ y k. member_other y x l k) in
    omega arith

pub over_some : (n : ℕ) (s : Set) (f : ℕ → ℕ) (l : List ℕ) → Distinct l → ((x : ℕ) → Mem x l → (x < n) × Is (s x)) → sum_over f l ≤ sum_in n s f
over_some n s f l d h =
    let a = in_list n f l d (λ x m. (h x m).0) in
    let b = in_sub n (λ v. member v l) s f (λ i k p. (h i (member_mem i l p)).1) in
    omega arith

pub over_all : (n : ℕ) (s : Set) (f : ℕ → ℕ) (l : List ℕ) → Distinct l → ((x : ℕ) → Mem x l → (x < n) × Is (s x)) → ((x : ℕ) → x < n → Is (s x) → Mem x l) → sum_over f l ≡ sum_in n s f
over_all n s f l d h all =
    sym (in_list n f l d (λ x m. (h x m).0))
    ∙ in_same n (λ v. member v l) s f f (λ i k. same_test (member i l) (s i) (λ p. (h i (member_mem i l p)).1) (λ p. mem_member (all i k p))) (λ i k. refl)

-- ---- over the members of a set, ascending

over_last : (f : ℕ → ℕ) (l : List ℕ) (x : ℕ) → sum_over f (l ++ (x ∷ [])) ≡ f x + sum_over f l
unfolding sum_over
over_last f [] x = refl
over_last f (y ∷ l) x = let h = over_last f l x in omega arith

pub over_members : (n : ℕ) (s : Set) (f : ℕ → ℕ) → sum_over f (members n s) ≡ sum_in n s f
unfolding sum_over sum_in sum_below members
over_members zero s f = refl
over_members (suc n) s f = go (s n) (over_members n s f)
  where
    go : (b : Bool) → sum_over f (members n s) ≡ sum_in n s f → sum_over f (cond b (members n s ++ (n ∷ [])) (members n s)) ≡ cond b (f n) 0 + sum_in n s f
    go true h = let k = over_last f (members n s) n in omega arith
    go false h = omega arith
