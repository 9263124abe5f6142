-- Truth values, membership, and searches over lists and below a bound.
use mathlib.Core.Path.{◌≡◌, refl, sym, ◌∙◌, subst}
use mathlib.Core.Logic.{◌⊎◌, inl, inr}
use mathlib.Core.Bool.{Bool, true, false, not, ◌&&◌, ◌||◌, true≢false}
use mathlib.Core.List.Memᴰ
use mathlib.Core.List.{List, [], ◌∷◌}
use Prim.Native.Nat.{ℕ, zero, suc, ◌<◌}
use native.Mathlib.Nat.{not-suc-le-zero}
use native.Mathlib.Omega.{arith}
use native.Mathlib.Decide.{ℕ_discrete}
use lib.Dec.{T, eqb, eqb→eq, eqb_refl}
use Rattle.theory.specs.Sets.{Is, Mem, any, all, member, any_below}

pub bool_cases : (b : Bool) → (b ≡ true) ⊎ (b ≡ false)
bool_cases true = inl refl
bool_cases false = inr refl

pub clash : {X : Type 0} {b : Bool} → b ≡ true → b ≡ false → X
clash p q = absurd (true≢false (sym p ∙ q))

pub and_intro : {a b : Bool} → Is a → Is b → Is (a && b)
and_intro {a = true} p q = q
and_intro {a = false} p q = p

pub and_left : (a b : Bool) → Is (a && b) → Is a
and_left true b p = refl
and_left false b p = p

pub and_right : (a b : Bool) → Is (a && b) → Is b
and_right true b p = p
and_right false b p = clash refl (sym p)

pub or_left : (a b : Bool) → Is a → Is (a || b)
or_left true b p = refl
or_left false b p = clash refl (sym p)

pub or_right : (a b : Bool) → Is b → Is (a || b)
or_right true b p = refl
or_right false b p = p

pub or_cases : (a b : Bool) → Is (a || b) → Is a ⊎ Is b
or_cases true b p = inl refl
or_cases false b p = inr p

pub neither : (a b : Bool) → a ≡ false → b ≡ false → a || b ≡ false
neither true b p q = p
neither false b p q = q

pub neither_left : (a b : Bool) → a || b ≡ false → a ≡ false
neither_left true b p = p
neither_left false b p = refl

pub neither_right : (a b : Bool) → a || b ≡ false → b ≡ false
neither_right true b p = clash refl p
neither_right false b p = p

pub or_none : (a : Bool) → a || false ≡ a
or_none true = refl
or_none false = refl

pub or_assoc : (a b c : Bool) → (a || b) || c ≡ a || (b || c)
or_assoc true b c = refl
or_assoc false b c = refl

pub not_true : (b : Bool) → Is (not b) → b ≡ false
not_true true p = clash refl (sym p)
not_true false p = refl

pub not_false : (b : Bool) → b ≡ false → Is (not b)
not_false true p = clash refl p
not_false false p = refl

-- a truth value that cannot be true is false
pub is_false : (b : Bool) → (Is b → ⊥) → b ≡ false
is_false true h = absurd (h refl)
is_false false h = refl

-- ---- numbers

pub same_test : (a b : Bool) → (Is a → Is b) → (Is b → Is a) → a ≡ b
same_test true b f g = sym (f refl)
same_test false b f g = sym (is_false b (λ p. clash (g p) refl))

pub T_is : (b : Bool) → T b → Is b
T_is true t = refl
T_is false t = absurd t

pub is_T : (b : Bool) → Is b → T b
is_T true p = tt
is_T false p = absurd (true≢false (sym p))

pub eq_is : (m n : ℕ) → Is (eqb m n) → m ≡ n
eq_is m n p = eqb→eq m n (is_T (eqb m n) p)

pub is_eq : (m n : ℕ) → m ≡ n → Is (eqb m n)
is_eq m n e = subst (λ (k : ℕ). Is (eqb m k)) e (T_is (eqb m m) (eqb_refl m))

-- ---- membership in a list of numbers

pub any_found : (p : ℕ → Bool) (l : List ℕ) → Is (any p l) → (x : ℕ) × Mem x l × Is (p x)
unfolding any
any_found p [] h = clash refl (sym h)
any_found p (x ∷ l) h = go (any_found p l) (or_cases (p x) (any p l) h)
  where
    go : (Is (any p l) → (y : ℕ) × Mem y l × Is (p y)) → Is (p x) ⊎ Is (any p l) → (y : ℕ) × Mem y (x ∷ l) × Is (p y)
    go rest (inl q) = (x, Memᴰ.head refl, q)
    go rest (inr q) = let r = rest q in (r.0, Memᴰ.tail r.1, r.2)

pub any_holds : (p : ℕ → Bool) {x : ℕ} {l : List ℕ} → Mem x l → Is (p x) → Is (any p l)
unfolding any
any_holds p {x} (Memᴰ.head {x = y} {xs = l} e) h = or_left (p y) (any p l) (subst (λ (z : ℕ). Is (p z)) e h)
any_holds p (Memᴰ.tail {x = y} {xs = l} m) h = or_right (p y) (any p l) (any_holds p m h)

pub all_at : (p : ℕ → Bool) {x : ℕ} {l : List ℕ} → Is (all p l) → Mem x l → Is (p x)
unfolding all
all_at p {x} h (Memᴰ.head {x = y} {xs = l} e) = subst (λ (z : ℕ). Is (p z)) (sym e) (and_left (p y) (all p l) h)
all_at p h (Memᴰ.tail {x = y} {xs = l} m) = all_at p (and_right (p y) (all p l) h) m

pub all_holds : (p : ℕ → Bool) (l : List ℕ) → ((x : ℕ) → Mem x l → Is (p x)) → Is (all p l)
unfolding all
all_holds p [] h = refl
all_holds p (x ∷ l) h = and_intro (h x (Memᴰ.head refl)) (all_holds p l (λ y m. h y (Memᴰ.tail m)))

pub mem_member : {x : ℕ} {l : List ℕ} → Mem x l → Is (member x l)
unfolding member
mem_member {x} m = any_holds (λ y. eqb x y) m (is_eq x x refl)

pub member_mem : (x : ℕ) (l : List ℕ) → Is (member x l) → Mem x l
unfolding member
member_mem x l h =
    let r = any_found (λ y. eqb x y) l h in
    Memᴰ.cast (eq_is x r.0 r.2) r.1

pub mem_dec : (x : ℕ) (l : List ℕ) → Mem x l ⊎ (Mem x l → ⊥)
mem_dec x l = go (bool_cases (member x l))
  where
    go : (member x l ≡ true) ⊎ (member x l ≡ false) → Mem x l ⊎ (Mem x l → ⊥)
    go (inl p) = inl (member_mem x l p)
    go (inr p) = inr (λ m. clash (mem_member m) p)

-- ---- searches below a bound

pub below_found : (n : ℕ) (p : ℕ → Bool) → Is (any_below n p) → (i : ℕ) × (i < n) × Is (p i)
unfolding any_below
below_found zero p h = clash refl (sym h)
below_found (suc n) p h = go (below_found n p) (or_cases (p n) (any_below n p) h)
  where
    go : (Is (any_below n p) → (i : ℕ) × (i < n) × Is (p i)) → Is (p n) ⊎ Is (any_below n p) → (i : ℕ) × (i < suc n) × Is (p i)
    go rest (inl q) = (n, omega arith, q)
    go rest (inr q) = let r = rest q in let k : r.0 < n = r.1 in (r.0, omega arith, r.2)

pub below_holds : (n : ℕ) (p : ℕ → Bool) (i : ℕ) → i < n → Is (p i) → Is (any_below n p)
unfolding any_below
below_holds zero p i h q = absurd (not-suc-le-zero h)
below_holds (suc n) p i h q = go (ℕ_discrete i n) (λ k. below_holds n p i k q)
  where
    go : Dec (i ≡ n) → (i < n → Is (any_below n p)) → Is (p n || any_below n p)
    go (yes e) rest = or_left (p n) (any_below n p) (subst (λ (z : ℕ). Is (p z)) e q)
    go (no e) rest = or_right (p n) (any_below n p) (rest (omega arith))
