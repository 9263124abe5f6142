-- The nodes of the cone are parted one after the other: the beginning, a counter at the front, a seed at the back; and the members of a set are listed.
use mathlib.Core.Path.{◌≡◌, refl, sym, ap, ◌∙◌}
use mathlib.Core.Logic.{◌⊎◌, inl, inr}
use mathlib.Core.Bool.{Bool, true, false, not, cond}
use mathlib.Core.List.{List, [], ◌∷◌, ◌++◌}
use Prim.Native.Nat.{ℕ, zero, suc, ◌+◌, ◌-◌, ◌≤◌, ◌<◌}
use native.Mathlib.Omega.{arith}
use native.Mathlib.Numerals.{add-one}
use native.Mathlib.Decide.{ℕ_discrete, dec_lt}
use lib.ListN.{length, get_or, set, take, drop, length-set}
use lib.Seq.{slice, slice_empty, slice-cons, take-suc-set, take-set-le, get_or-set_same, get_or-set_other}
use Rattle.std.specs.Prelude.{filter}
use Rattle.theory.specs.Sets.{Set, Is, members}
use Rattle.theory.specs.Theory.{Theory}
use Rattle.theory.specs.Prefix.{upto}
use Rattle.theory.specs.Roles.{seed, role}
use Rattle.theory.proofs.SetLaws.{bool_cases}
use Rattle.theory.proofs.ServeLaws.{kept_in, kept_out}
use Rattle.theory.proofs.PrefixLaws.{upto_push, upto_same}
use Rattle.cones.proofs.FactLaws.{members_in, members_out}
use Rattle.projection.specs.Roles.{Parting, Parted, Membered}
use Rattle.projection.proofs.RowingLaws.{slice_past}

module _ (th : Theory) (marked : Set) (list : List ℕ) (total : ℕ) where
  pub parting_start : {nodes roles : List ℕ} → length nodes ≡ total → length roles ≡ total → Parting th marked list total nodes roles 0 total 0
  unfolding upto
  parting_start {nodes} {roles} n r = record {
    node_words = n;
    role_words = r;
    seeds_low = omega arith;
    counted = omega arith;
    front = refl;
    back = slice_empty total nodes;
    numbers = λ j h. none j h;
  }
    where
      none : (j : ℕ) → (j < 0) ⊎ ((total ≤ j) × (j < total)) → get_or roles j 0 ≡ role th marked (get_or nodes j 0)
      none j (inl h) = absurd (omega arith)
      none j (inr h) = let a = h.0 in let b = h.1 in absurd (omega arith)

  -- all are parted
  pub parting_end : {nodes roles : List ℕ} {counters seeds i : ℕ} → Parting th marked list total nodes roles counters seeds i → i ≡ total → Parted th marked list total nodes roles counters
  parting_end {counters = counters} {seeds = seeds} k e = let c = k.counted in let q : seeds ≡ counters = omega arith in rw (e, q) at k

  module _ {nodes roles : List ℕ} {counters seeds i : ℕ} (k : Parting th marked list total nodes roles counters seeds i) (l : i < total) {n : ℕ} (en : n ≡ get_or list i 0) where
    pub parting_room : counters < seeds
    parting_room = let c = k.counted in let s = k.seeds_low in omega arith

    more : upto (i + 1) list ≡ n ∷ upto i list
    unfolding upto
    more = rw (add-one i, en) refl

    pub counter_parted : seed th marked n ≡ false → Parting th marked list total (set nodes counters n) (set roles counters (role th marked n)) (counters + 1) seeds (i + 1)
    unfolding upto
    counter_parted e = let r = parting_room in let s = k.seeds_low in let c = k.counted in let z = k.node_words in let y = k.role_words in record {
      node_words = length-set nodes counters n ∙ k.node_words;
      role_words = length-set roles counters (role th marked n) ∙ k.role_words;
      seeds_low = k.seeds_low;
      counted = omega arith;
      front =
          ap (λ (x : ℕ). upto x (set nodes counters n)) (add-one counters) ∙ upto_push counters n nodes (omega arith) ∙ ap (λ (x : List ℕ). n ∷ x) k.front
          ∙ sym (ap (filter (λ m. not (seed th marked m))) more ∙ kept_in (λ m. not (seed th marked m)) n (upto i list) (ap not e));
      back = slice_past seeds total nodes counters n r k.seeds_low (omega arith) ∙ k.back ∙ sym (ap (filter (seed th marked)) more ∙ kept_out (seed th marked) n (upto i list) e);
      numbers = λ j h. numbers j h (ℕ_discrete j counters);
    }
      where
        numbers : (j : ℕ) → (j < counters + 1) ⊎ ((seeds ≤ j) × (j < total)) → Dec (j ≡ counters) → get_or (set roles counters (role th marked n)) j 0 ≡ role th marked (get_or (set nodes counters n) j 0)
        numbers j h (yes q) =
            let r = parting_room in let s = k.seeds_low in let z = k.node_words in let y = k.role_words in
            rw q (get_or-set_same roles counters (role th marked n) 0 (omega arith) ∙ ap (role th marked) (sym (get_or-set_same nodes counters n 0 (omega arith))))
        numbers j h (no q) = get_or-set_other roles counters j (role th marked n) 0 q ∙ k.numbers j (lower h) ∙ ap (role th marked) (sym (get_or-set_other nodes counters j n 0 q))
          where
            lower : (j < counters + 1) ⊎ ((seeds ≤ j) × (j < total)) → (j < counters) ⊎ ((seeds ≤ j) × (j < total))
            lower (inl b) = inl (omega arith)
            lower (inr b) = inr b

    pub seed_parted : Is (seed th marked n) → Parting th marked list total (set nodes (seeds - 1) n) (set roles (seeds - 1) (role th marked n)) counters (seeds - 1) (i + 1)
    seed_parted e = let r = parting_room in let s = k.seeds_low in let c = k.counted in let z = k.node_words in let y = k.role_words in record {
      node_words = length-set nodes (seeds - 1) n ∙ k.node_words;
      role_words = length-set roles (seeds - 1) (role th marked n) ∙ k.role_words;
      seeds_low = omega arith;
      counted = omega arith;
      front = upto_same counters (set nodes (seeds - 1) n) nodes (λ j h. get_or-set_other nodes (seeds - 1) j n 0 (λ q. omega arith)) ∙ k.front ∙ sym (ap (filter (λ m. not (seed th marked m))) more ∙ kept_out (λ m. not (seed th marked m)) n (upto i list) (ap not e));
      back = back ∙ ap (λ (x : List ℕ). n ∷ x) k.back ∙ sym (ap (filter (seed th marked)) more ∙ kept_in (seed th marked) n (upto i list) e);
      numbers = λ j h. numbers j h (ℕ_discrete j (seeds - 1));
    }
      where
        back : slice (seeds - 1) total (set nodes (seeds - 1) n) ≡ n ∷ slice seeds total nodes
        back =
            let r = parting_room in let s = k.seeds_low in let z = k.node_words in
            let q : suc (seeds - 1) ≡ seeds = omega arith in
            slice-cons (seeds - 1) total (set nodes (seeds - 1) n) 0 (omega arith) (rw length-set (omega arith))
            ∙ rw (get_or-set_same nodes (seeds - 1) n 0 (omega arith), q, slice_past seeds total nodes (seeds - 1) n (omega arith) s (omega arith)) refl

        numbers : (j : ℕ) → (j < counters) ⊎ ((seeds - 1 ≤ j) × (j < total)) → Dec (j ≡ seeds - 1) → get_or (set roles (seeds - 1) (role th marked n)) j 0 ≡ role th marked (get_or (set nodes (seeds - 1) n) j 0)
        numbers j h (yes q) =
            let r = parting_room in let s = k.seeds_low in let z = k.node_words in let y = k.role_words in
            rw q (get_or-set_same roles (seeds - 1) (role th marked n) 0 (omega arith) ∙ ap (role th marked) (sym (get_or-set_same nodes (seeds - 1) n 0 (omega arith))))
        numbers j h (no q) = get_or-set_other roles (seeds - 1) j (role th marked n) 0 q ∙ k.numbers j (higher h) ∙ ap (role th marked) (sym (get_or-set_other nodes (seeds - 1) j n 0 q))
          where
            higher : (j < counters) ⊎ ((seeds - 1 ≤ j) × (j < total)) → (j < counters) ⊎ ((seeds ≤ j) × (j < total))
            higher (inl b) = inl b
            higher (inr b) = let x = b.0 in let r = parting_room in inr (omega arith, b.1)

-- ---- members, ascending

pub membered_start : (s : Set) (p : List ℕ) → Membered s 0 p 0
unfolding members
membered_start s p = record { few = omega arith; are = refl }

pub membered_next : (s : Set) {a : ℕ} {p : List ℕ} {count : ℕ} → Membered s a p count → a < length p → {n : ℕ} → n ≡ cond (s a) 1 0 → Membered s (a + 1) (set p count a) (count + n)
membered_next s {a} {p} {count} k l {n} en = go (bool_cases (s a))
  where
    go : (s a ≡ true) ⊎ (s a ≡ false) → Membered s (a + 1) (set p count a) (count + n)
    go (inl e) =
        let f = k.few in let q : n ≡ 1 = en ∙ ap (λ (x : Bool). cond x 1 0) e in
        let z : count + n ≡ suc count = omega arith in
        record { few = omega arith; are = rw z (take-suc-set p count a (omega arith) ∙ ap (λ (x : List ℕ). x ++ (a ∷ [])) k.are ∙ sym (members_in a s e)) }
    go (inr e) =
        let f = k.few in let q : n ≡ 0 = en ∙ ap (λ (x : Bool). cond x 1 0) e in
        let z : count + n ≡ count = omega arith in
        record { few = omega arith; are = rw z (take-set-le count p count a (omega arith) ∙ k.are ∙ sym (members_out a s e)) }
