-- All choices: what the recursion asks for stands at its beginning (`ready_all`), the mask in 16 words has the bits of the mask (`copied_bits`), and the counts from 0 on are those of every
-- choice (`every`); a listed atom is below the bound (`places_low`).
use mathlib.Core.Path.{◌≡◌, refl, sym, ap, ◌∙◌, fun_ext}
use mathlib.Core.List.{List, ◌++◌}
use Prim.Native.Nat.{ℕ, zero, suc, ◌+◌, ◌-◌, ◌*◌, ◌/◌, ◌^◌, ◌≤◌, ◌<◌}
use native.Mathlib.Nat.{pow-suc}
use native.Mathlib.Decide.{dec_lt}
use native.Mathlib.Omega.{arith}
use lib.ListN.{length, get_or, drop, replicate, length-append, length-drop, length-replicate, get_or-append, get_or-replicate, get_or-eq_default}
use lib.Seq.{get_or-drop, get_or-append-add}
use Rattle.theory.specs.Sets.{Set, members}
use Rattle.theory.specs.Words.{theory_of, bit_at}
use Rattle.theory.specs.Accepted.{Accepted, edition1}
use Rattle.choices.specs.Choices.{choices}
use Rattle.choices.specs.Tallies.{times, is_missing, is_ruled_out, is_neither}
use Rattle.cones.proofs.FactLaws.{members_mem}
use Rattle.graph.proofs.DecodeLaws.{the_atoms}
use Rattle.area.specs.declared.Bases.{Bases}
use Rattle.area.proofs.ListLaws.{get_d_mem}
use Rattle.cones.specs.declared.Cone.{Cone}
use Rattle.tally.specs.Counting.{Stood, Ready, Over, EveryChoice}

members_low : (n : ℕ) (s : Set) (i : ℕ) → i < length (members n s) → get_or (members n s) i 0 < n
members_low n s i l = ((members_mem n s (get_or (members n s) i 0)).0 (get_d_mem (members n s) i l)).0

pub places_low : {n : ℕ} (s : Set) {list : List ℕ} → n ≤ 1024 → list ≡ members n s → (i : ℕ) → i < length list → get_or list i 0 < 1024
places_low {n} s {list} few e i l = let h = members_low n s i (rw e at l) in rw e (omega arith)

-- with 12 numbers at most there are 4,096 choices at most
few_choices : (k n : ℕ) → n + k ≡ 12 → 2 ^ n ≤ 4096
few_choices zero n e = let q : n ≡ 12 = omega arith in rw q (omega arith)
few_choices (suc k) n e = let h = few_choices k (suc n) (omega arith) in let p = pow-suc 2 n in omega arith

-- ---- words of 0

zeros : (k i : ℕ) → get_or (replicate {A = ℕ} k 0) i 0 ≡ 0
zeros k i = go (dec_lt i k)
  where
    go : Dec (i < k) → get_or (replicate {A = ℕ} k 0) i 0 ≡ 0
    go (yes l) = get_or-replicate {A = ℕ} k i 0 0 l
    go (no l) = get_or-eq_default (replicate {A = ℕ} k 0) 0 {n = i} (rw length-replicate (omega arith))

-- a mask in front of words of 0
pub copied_bits : {m copy : List ℕ} (k : ℕ) → copy ≡ m → (i : ℕ) → bit_at (copy ++ drop (length m) (replicate {A = ℕ} k 0)) i ≡ bit_at m i
unfolding bit_at
copied_bits {m} {copy} k e i = rw (e, word (i / 64)) refl
  where
    word : (j : ℕ) → get_or (m ++ drop (length m) (replicate {A = ℕ} k 0)) j 0 ≡ get_or m j 0
    word j = go (dec_lt j (length m))
      where
        go : Dec (j < length m) → get_or (m ++ drop (length m) (replicate {A = ℕ} k 0)) j 0 ≡ get_or m j 0
        go (yes l) = get_or-append m (drop (length m) (replicate {A = ℕ} k 0)) 0 j l
        go (no l) =
            let p : length m + (j - length m) ≡ j = omega arith in
            ap (λ (x : ℕ). get_or (m ++ drop (length m) (replicate {A = ℕ} k 0)) x 0) (sym p)
            ∙ get_or-append-add m (drop (length m) (replicate {A = ℕ} k 0)) (j - length m) 0
            ∙ get_or-drop (length m) (replicate {A = ℕ} k 0) (j - length m) 0
            ∙ zeros k (length m + (j - length m))
            ∙ sym (get_or-eq_default m 0 {n = j} (omega arith))

-- ---- the whole

pub ready_all : {ws list : List ℕ} (out : List ℕ) {m copy w : List ℕ} {b : Bases} {c : Cone} → Accepted edition1 ws → Stood ws b w c → length out ≡ 3 * b.atoms → length list ≤ 12 → ((i : ℕ) → i < length list → get_or list i 0 < 1024)
    → length m ≤ 16 → copy ≡ m → Ready ws (copy ++ drop (length m) (replicate {A = ℕ} 16 0)) list (replicate (length out) 0) w b c
ready_all {list = list} out {m} {copy} acc s e few low long q = record {
  accepted = acc;
  standing = s;
  places = low;
  words = rw q (length-append m (drop (length m) (replicate {A = ℕ} 16 0)) ∙ omega (arith, length-drop (length m) (replicate {A = ℕ} 16 0), length-replicate {A = ℕ} 16 0));
  size = length-replicate (length out) 0 ∙ e;
  low = λ i. let z = zeros (length out) i in let p = few_choices (12 - length list) (length list) (omega arith) in omega arith;
}

pub every : {ws cut list : List ℕ} (out m : List ℕ) {w : List ℕ} {b : Bases} {c : Cone} {never : Set} {cut' out' w' : List ℕ} → Stood ws b w c → length out ≡ 3 * b.atoms → ((i : ℕ) → bit_at cut i ≡ bit_at m i)
    → Over ws never cut list (replicate (length out) 0) w b c cut' out' w' → EveryChoice ws never (bit_at m) list w out' w'
every {ws} {cut} {list} out m {b = b} {never = never} s e bits o = record {
  size = o.work_size;
  long = o.counts.size ∙ length-replicate (length out) 0 ∙ (let q = the_atoms ws in let k = s.based.atoms in omega arith);
  first = λ a l. o.counts.first a l ∙ from (3 * a) _ ∙ ap (λ (x : Set). times (is_missing (theory_of ws) never a) x (choices list)) same;
  second = λ a l. o.counts.second a l ∙ from (3 * a + 1) _ ∙ ap (λ (x : Set). times (is_ruled_out (theory_of ws) never a) x (choices list)) same;
  third = λ a l. o.counts.third a l ∙ from (3 * a + 2) _ ∙ ap (λ (x : Set). times (is_neither (theory_of ws) never a) x (choices list)) same;
}
  where
    same : bit_at cut ≡ bit_at m
    same = fun_ext bits

    from : (i k : ℕ) → get_or (replicate {A = ℕ} (length out) 0) i 0 + k ≡ k
    from i k = let z = zeros (length out) i in omega arith
