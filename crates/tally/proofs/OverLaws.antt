-- The recursion: one choice (`over_last`), an atom fixed both ways (`over_both`), what the two calls ask for (`ready_first`, `ready_second`), and the cuts of a choice, put back after it
-- (`adding_bits`, `put_back`).
use mathlib.Core.Path.{◌≡◌, refl, sym, ap, ◌∙◌, fun_ext}
use mathlib.Core.Bool.{Bool, true, false, not, ◌&&◌, ◌||◌, cond}
use mathlib.Core.List.{List, [], ◌∷◌}
use Prim.Native.Nat.{ℕ, suc, ◌+◌, ◌-◌, ◌*◌, ◌/◌, ◌%◌, ◌^◌, ◌≤◌, ◌<◌}
use native.Mathlib.Nat.{pow-suc}
use native.Mathlib.Decide.{ℕ_discrete}
use native.Mathlib.Omega.{arith}
use borrow.Author.Tests.{eq-eqb, ne_eqb}
use lib.Dec.{eqb}
use lib.ListN.{length, get_or, set, take, drop, length-take, length-drop, length-set}
use lib.Seq.{get_or-take, get_or-drop, get_or-set_same, get_or-set_other}
use Rattle.theory.specs.Sets.{Set, Is}
use Rattle.theory.specs.Words.{theory_of, bit_at}
use Rattle.theory.specs.Founded.{missing}
use Rattle.theory.proofs.FoundedLaws.{missing_parts}
use Rattle.choices.specs.Choices.{adding, choices}
use Rattle.choices.specs.Tallies.{times, is_missing, is_ruled_out, is_neither}
use Rattle.choices.proofs.TallyLaws.{times_first, times_last, times_add}
use Rattle.mask.specs.Mask.{with_bit, flagged}
use Rattle.mask.proofs.MaskLaws.{mask_length}
use Rattle.undecided.proofs.ShutLaws.{with_bit_at}
use Rattle.undecided.proofs.ListLaws.{pass_flags}
use Rattle.graph.proofs.DecodeLaws.{the_atoms}
use Rattle.area.specs.declared.Bases.{Bases}
use Rattle.cones.specs.declared.Cone.{Cone}
use Rattle.preparation.specs.Stages.{Passing}
use Rattle.preparation.proofs.PassLaws.{standing_kept}
use Rattle.tally.specs.Counting.{ChoiceAdded, Ready, Over}
use Rattle.tally.proofs.CountLaws.{added_same, added_twice, added_low}

-- ---- the cuts of a choice

pub adding_bits : (m : List ℕ) {m' : List ℕ} {x : ℕ} → x < 64 * length m → m' ≡ with_bit x m → (i : ℕ) → bit_at m' i ≡ adding x (bit_at m) i
adding_bits m {m'} {x} low e i = ap (λ (y : List ℕ). bit_at y i) e ∙ with_bit_at m x low i ∙ ap (λ (b : Bool). b || bit_at m i) (swap (ℕ_discrete i x))
  where
    swap : Dec (i ≡ x) → eqb i x ≡ eqb x i
    swap (yes q) = eq-eqb i x q ∙ sym (eq-eqb x i (sym q))
    swap (no q) = ne_eqb i x q ∙ sym (ne_eqb x i (λ z. q (sym z)))

-- the word of x is as it was, and x was all that was ruled out
pub put_back : (m₀ m : List ℕ) {m' : List ℕ} {x old : ℕ} → x < 64 * length m → old ≡ get_or m₀ (x / 64) 0 → ((i : ℕ) → bit_at m i ≡ adding x (bit_at m₀) i) → m' ≡ set m (x / 64) old → (i : ℕ) → bit_at m' i ≡ bit_at m₀ i
unfolding bit_at
put_back m₀ m {m'} {x} {old} low eo h e i = go (ℕ_discrete (i / 64) (x / 64))
  where
    bit : ℕ → Bool
    bit v = eqb (v / 2 ^ (i % 64) % 2) 1

    go : Dec (i / 64 ≡ x / 64) → bit (get_or m' (i / 64) 0) ≡ bit (get_or m₀ (i / 64) 0)
    go (yes q) = ap (λ (y : List ℕ). bit (get_or y (i / 64) 0)) e ∙ ap bit (rw q (get_or-set_same m (x / 64) old 0 (omega arith) ∙ eo))
    go (no q) =
        ap (λ (y : List ℕ). bit (get_or y (i / 64) 0)) e
        ∙ ap bit (get_or-set_other m (x / 64) (i / 64) old 0 q)
        ∙ h i
        ∙ ap (λ (y : Bool). y || bit (get_or m₀ (i / 64) 0)) (ne_eqb x i (λ z. q (ap (λ (v : ℕ). v / 64) (sym z))))

-- ---- one choice

module _ {ws cut out w : List ℕ} {b : Bases} {c : Cone} {never : Set} {w' : List ℕ} (r : Ready ws cut [] out w b c) (p : Passing ws never (bit_at cut) b w w' c) where
  -- the part of the counts of atoms
  abbrev part : List ℕ
  part = take (b.dependencies + b.atoms - b.dependencies) (drop b.dependencies w')

  pub part_fits : (b.dependencies ≤ b.dependencies + b.atoms) × (b.dependencies + b.atoms ≤ length w')
  part_fits = let l = r.standing.based.laid in let e = r.standing.based.ends in let z = p.outside.size in (omega arith, omega arith)

  pub part_long : length part ≡ b.atoms
  part_long = let h = part_fits in simp (length-take, length-drop) (omega arith)

  same_atoms : b.atoms ≡ (theory_of ws).atoms
  same_atoms = let q = the_atoms ws in let k = r.standing.based.atoms in omega arith

  waits : (a : ℕ) → a < b.atoms → flagged part a ≡ missing (theory_of ws) never (bit_at cut) a
  waits a l =
      ap (λ (x : ℕ). eqb x 1) (get_or-take (b.dependencies + b.atoms - b.dependencies) (drop b.dependencies w') a 0 (omega arith) ∙ get_or-drop b.dependencies w' a 0 ∙ pass_flags r.accepted r.standing p a l)
      ∙ test (missing (theory_of ws) never (bit_at cut) a)
    where
      test : (m : Bool) → eqb (cond m 1 0) 1 ≡ m
      test true = refl
      test false = refl

  pub part_apart : (a : ℕ) → a < length part → Is (flagged part a) → bit_at cut a ≡ false
  part_apart a l m = let z = part_long in ((missing_parts (theory_of ws) never (bit_at cut) a).0 (sym (waits a (omega arith)) ∙ m)).1

  pub part_room : (length out ≡ 3 * length part) × (length part ≤ 1024) × ((i : ℕ) → get_or out i 0 < 4096)
  part_room =
      let z = part_long in let s = r.size in let few = r.accepted.atoms_few in let k = r.standing.based.atoms in
      (omega arith, omega arith, λ i. let h = r.low i in omega arith)

  pub over_last : {out' : List ℕ} → ChoiceAdded (flagged part) (bit_at cut) out out' (length part) → Over ws never cut [] out w b c cut out' w'
  over_last d = record {
    counts = added_same (part_long ∙ same_atoms)
        (λ a l. ap (λ (m : Bool). cond m 1 0) (waits a (let z = part_long in omega arith)) ∙ sym (times_last (is_missing (theory_of ws) never a) (bit_at cut)))
        (λ a l. sym (times_last (is_ruled_out (theory_of ws) never a) (bit_at cut)))
        (λ a l. ap (λ (m : Bool). cond (not m && not (bit_at cut a)) 1 0) (waits a (let z = part_long in omega arith)) ∙ sym (times_last (is_neither (theory_of ws) never a) (bit_at cut)))
        d;
    cut_size = refl;
    cuts = λ i. refl;
    work_size = p.outside.size;
    standing = standing_kept r.standing p.outside;
  }

-- ---- an atom fixed both ways

pub begun : {ws cut out w : List ℕ} {b : Bases} {c : Cone} {x : ℕ} {left list : List ℕ} → list ≡ x ∷ left → Ready ws cut list out w b c → Ready ws cut (x ∷ left) out w b c
begun e r = rw e at r

module _ {ws cut out w : List ℕ} {b : Bases} {c : Cone} {x : ℕ} {left : List ℕ} (r : Ready ws cut (x ∷ left) out w b c) where
  place : x < 1024
  place = r.places 0 (omega arith)

  -- its word, in as many words of cuts
  pub word_in : (m : List ℕ) {y : ℕ} → y ≡ x → length m ≡ length cut → (y / 64 < length m) × (y < 64 * length m)
  word_in m q e = let p = place in let w = r.words in (omega arith, omega arith)

  pub ready_first : Ready ws cut left out w b c
  ready_first = record {
    accepted = r.accepted;
    standing = r.standing;
    places = λ i l. r.places (suc i) (omega arith);
    words = r.words;
    size = r.size;
    low = λ i. let h = r.low i in let k = pow-suc 2 (length left) in omega arith;
  }

  module _ {never : Set} {cut₁ out₁ w₁ : List ℕ} (o : Over ws never cut left out w b c cut₁ out₁ w₁) where
    pub ready_second : {cut₂ : List ℕ} (y : ℕ) → cut₂ ≡ with_bit y cut₁ → Ready ws cut₂ left out₁ w₁ b c
    ready_second y e = record {
      accepted = r.accepted;
      standing = o.standing;
      places = λ i l. r.places (suc i) (omega arith);
      words = rw e (mask_length (length cut₁) (λ j. eqb j y || bit_at cut₁ j) ∙ o.cut_size ∙ r.words);
      size = o.counts.size ∙ r.size;
      low = λ i.
          let h = r.low i in
          let k = pow-suc 2 (length left) in
          let g = added_low (λ a. let s = times_add (theory_of ws) never a (bit_at cut) left in few _ _ _ s) o.counts i in
          omega arith;
    }
      where
        few : {k : ℕ} (p q s : ℕ) → p + q + s ≡ k → (p ≤ k) × (q ≤ k) × (s ≤ k)
        few p q s e = (omega arith, omega arith, omega arith)

    -- the two calls and the stores around them
    pub over_both : {cut₂ cut₃ cut₄ out₂ w₂ : List ℕ} {y word : ℕ} → y ≡ x → word ≡ get_or cut (y / 64) 0 → cut₂ ≡ with_bit y cut₁ → Over ws never cut₂ left out₁ w₁ b c cut₃ out₂ w₂ → cut₄ ≡ set cut₃ (y / 64) word
        → Over ws never cut (x ∷ left) out w b c cut₄ out₂ w₂
    over_both {cut₂} {cut₃} {cut₄} {y = y} q ew es p e = record {
      counts = added_twice
          (λ a. times_first (is_missing (theory_of ws) never a) (bit_at cut) x left ∙ ap (λ (s : Set). times (is_missing (theory_of ws) never a) (bit_at cut) (choices left) + times (is_missing (theory_of ws) never a) s (choices left)) ruled)
          (λ a. times_first (is_ruled_out (theory_of ws) never a) (bit_at cut) x left ∙ ap (λ (s : Set). times (is_ruled_out (theory_of ws) never a) (bit_at cut) (choices left) + times (is_ruled_out (theory_of ws) never a) s (choices left)) ruled)
          (λ a. times_first (is_neither (theory_of ws) never a) (bit_at cut) x left ∙ ap (λ (s : Set). times (is_neither (theory_of ws) never a) (bit_at cut) (choices left) + times (is_neither (theory_of ws) never a) s (choices left)) ruled)
          o.counts p.counts;
      cut_size = ap length e ∙ length-set cut₃ (y / 64) _ ∙ p.cut_size ∙ rw es (mask_length (length cut₁) (λ j. eqb j y || bit_at cut₁ j)) ∙ o.cut_size;
      cuts = put_back cut cut₃ ((word_in cut₃ q (p.cut_size ∙ rw es (mask_length (length cut₁) (λ j. eqb j y || bit_at cut₁ j)) ∙ o.cut_size)).1) ew (λ i. p.cuts i ∙ eb i ∙ ap (λ (z : Bool). eqb y i || z) (o.cuts i)) e;
      work_size = p.work_size ∙ o.work_size;
      standing = p.standing;
    }
      where
        eb : (i : ℕ) → bit_at cut₂ i ≡ adding y (bit_at cut₁) i
        eb = adding_bits cut₁ (word_in cut₁ q o.cut_size).1 es

        ruled : adding x (bit_at cut) ≡ bit_at cut₂
        ruled = rw (sym q) (fun_ext (λ i. ap (λ (z : Bool). eqb y i || z) (sym (o.cuts i)) ∙ sym (eb i)))
