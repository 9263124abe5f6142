-- What is listed after a pass: the flags with the undecided atoms left out (`always_listed`), and the flags of the wider node mask (`sometimes_listed`). What a pass over the cyclic atoms asks for and leaves: `stands_enough`, `pass_flags`.
use mathlib.Core.Path.{◌≡◌, refl, ap, ◌∙◌}
use mathlib.Core.Bool.{Bool, true, false, not, ◌&&◌, cond}
use mathlib.Core.List.{List, ◌++◌}
use Prim.Native.Nat.{ℕ, ◌+◌, ◌-◌, ◌≤◌, ◌<◌}
use native.Mathlib.Omega.{arith}
use borrow.Author.Tests.{lt-ltb}
use lib.ListN.{length, get_or, take, drop, length-take, length-drop}
use lib.Seq.{get_or-take, get_or-drop}
use Rattle.theory.specs.Sets.{Set}
use Rattle.theory.specs.Words.{theory_of}
use Rattle.theory.specs.Accepted.{Accepted, edition1}
use Rattle.theory.specs.Founded.{cyclic, cyclic_cone, missing}
use Rattle.theory.specs.Pass.{EnoughAmong}
use Rattle.theory.proofs.CutLaws.{SameCuts, missing_cuts}
use Rattle.theory.proofs.PassLaws.{cyclic_cone_enough}
use Rattle.choices.specs.Undecided.{shut, always_missing, sometimes_missing}
use Rattle.mask.specs.Mask.{below, pack, flagged}
use Rattle.graph.proofs.DecodeLaws.{the_nodes}
use Rattle.area.specs.declared.Bases.{Bases}
use Rattle.area.specs.Views.{count_at, Outside}
use Rattle.area.proofs.PartLaws.{part_length, part_before, part_after, part_at}
use Rattle.cones.specs.declared.Cone.{Cone}
use Rattle.preparation.specs.Stages.{Standing, Passing}
use Rattle.preparation.proofs.PassLaws.{standing_kept}
use Rattle.founded.proofs.OutputLaws.{part_pack, flags_pack}
use Rattle.undecided.specs.Lists.{LeftOut, Listing}

-- the flags of a part, packed
packed : (from n k m : ℕ) (w : List ℕ) (s : Set) → from + n ≤ length w → k ≡ n → n ≡ m → ((a : ℕ) → a < n → get_or w (from + a) 0 ≡ cond (s a) 1 0)
    → pack (length (take k (drop from w))) (flagged (take k (drop from w))) ≡ pack m s
packed from n k m w s h e q f = part_pack from n k w h e ∙ flags_pack from w s q f

-- what a pass goes by, and the flags that it leaves
pub stands_enough : {ws : List ℕ} {b : Bases} {w : List ℕ} {c : Cone} → Accepted edition1 ws → Standing ws b (cyclic (theory_of ws)) (cyclic_cone (theory_of ws)) w c → (never atom_never : Set)
    → Accepted edition1 ws × (marked : Set) × (cone : Set) × Standing ws b marked cone w c × EnoughAmong (theory_of ws) marked cone never atom_never
stands_enough {ws} acc s never atom_never = (acc, cyclic (theory_of ws), cyclic_cone (theory_of ws), s, cyclic_cone_enough (theory_of ws) acc.well_formed never atom_never)

pub pass_flags : {ws : List ℕ} {b : Bases} {w w' : List ℕ} {c : Cone} {never atom_never : Set} → Accepted edition1 ws → Standing ws b (cyclic (theory_of ws)) (cyclic_cone (theory_of ws)) w c → Passing ws never atom_never b w w' c
    → (a : ℕ) → a < b.atoms → count_at b w' a ≡ cond (missing (theory_of ws) never atom_never a) 1 0
unfolding missing
pass_flags {ws} {never = never} {atom_never} acc s r = (r.waiting (cyclic (theory_of ws)) (cyclic_cone (theory_of ws)) s (cyclic_cone_enough (theory_of ws) acc.well_formed never atom_never)).flags

module _ {ws : List ℕ} {b : Bases} {w w₁ : List ℕ} {c : Cone} {never atom_never : Set} (acc : Accepted edition1 ws) (s : Standing ws b (cyclic (theory_of ws)) (cyclic_cone (theory_of ws)) w c) (r : Passing ws never atom_never b w w₁ c) where
  room : b.dependencies + b.atoms ≤ length w₁
  room = let l = s.based.laid in let e = s.based.ends in let z = r.outside.size in omega arith

  pub fits : (b.dependencies ≤ b.dependencies + b.atoms) × (b.dependencies + b.atoms ≤ length w₁)
  fits = (omega arith, room)

  standing₁ : Standing ws b (cyclic (theory_of ws)) (cyclic_cone (theory_of ws)) w₁ c
  standing₁ = standing_kept s r.outside

  module _ (undecided : Set) {p : List ℕ} (l : LeftOut undecided (take (b.dependencies + b.atoms - b.dependencies) (drop b.dependencies w₁)) p
      (length (take (b.dependencies + b.atoms - b.dependencies) (drop b.dependencies w₁)))) where
    part : length (take (b.dependencies + b.atoms - b.dependencies) (drop b.dependencies w₁)) ≡ b.dependencies + b.atoms - b.dependencies
    part = let h = room in simp (length-take, length-drop) (omega arith)

    abbrev back : List ℕ
    back = take b.dependencies w₁ ++ (p ++ drop (b.dependencies + b.atoms - b.dependencies) (drop b.dependencies w₁))

    size : length p ≡ b.dependencies + b.atoms - b.dependencies
    size = l.size ∙ part

    outside : Outside b.dependencies b.body_nodes w₁ back
    outside =
        let h = room in let d = s.based.laid in
        record {
          size = part_length b.dependencies (b.dependencies + b.atoms) w₁ p (omega arith) h size;
          before = part_before b.dependencies (b.dependencies + b.atoms) w₁ p (omega arith) h size;
          after = part_after b.dependencies (b.dependencies + b.atoms) w₁ p (omega arith) h size b.body_nodes (omega arith);
        }

    left : (a : ℕ) → a < b.atoms → get_or back (b.dependencies + a) 0 ≡ cond (always_missing (theory_of ws) never atom_never undecided a) 1 0
    unfolding always_missing
    left a i =
        let z = size in let y = part in
        part_at b.dependencies (b.dependencies + b.atoms) w₁ p (omega arith) room size a (omega arith)
        ∙ l.left a (omega arith)
        ∙ ap (λ (x : ℕ). cond (undecided a) 0 x) (get_or-take (b.dependencies + b.atoms - b.dependencies) (drop b.dependencies w₁) a 0 (omega arith) ∙ get_or-drop b.dependencies w₁ a 0 ∙ pass_flags acc s r a i)
        ∙ both (missing (theory_of ws) never atom_never a) (undecided a)
      where
        both : (m u : Bool) → ◌≡◌ {A = ℕ} (cond u 0 (cond m 1 0)) (cond (m && not u) 1 0)
        both true true = refl
        both true false = refl
        both false true = refl
        both false false = refl

    pub always_fits : b.dependencies + b.atoms ≤ length back
    always_fits = let h = room in let o = outside.size in omega arith

    pub always_listed : {output : List ℕ} → output ≡ pack (length (take (b.dependencies + b.atoms - b.dependencies) (drop b.dependencies back))) (flagged (take (b.dependencies + b.atoms - b.dependencies) (drop b.dependencies back)))
        → Listing ws b c (always_missing (theory_of ws) never atom_never undecided) w back output
    always_listed e = record {
      size = outside.size ∙ r.outside.size;
      standing = standing_kept standing₁ outside;
      list = e ∙ packed b.dependencies b.atoms (b.dependencies + b.atoms - b.dependencies) (get_or ws 1 0) back _ always_fits (omega arith) s.based.atoms left;
    }

pub sometimes_listed : {ws : List ℕ} {b : Bases} {w w₁ : List ℕ} {c : Cone} {atom_never wide : Set} (never undecided atom_undecided : Set) → Accepted edition1 ws → Standing ws b (cyclic (theory_of ws)) (cyclic_cone (theory_of ws)) w c
    → ((n : ℕ) → wide n ≡ below (get_or ws 2 0) (shut (theory_of ws) never undecided atom_undecided) n) → Passing ws wide atom_never b w w₁ c
    → {output : List ℕ} → output ≡ pack (length (take (b.dependencies + b.atoms - b.dependencies) (drop b.dependencies w₁))) (flagged (take (b.dependencies + b.atoms - b.dependencies) (drop b.dependencies w₁)))
    → Listing ws b c (sometimes_missing (theory_of ws) never undecided atom_never atom_undecided) w w₁ output
unfolding sometimes_missing
sometimes_listed {ws} {b} {w} {w₁} {c} {atom_never} {wide} never undecided atom_undecided acc s h r e = record {
  size = r.outside.size;
  standing = standing_kept s r.outside;
  list = e ∙ packed b.dependencies b.atoms (b.dependencies + b.atoms - b.dependencies) (get_or ws 1 0) w₁ _ (fits acc s r).1 (omega arith) s.based.atoms (λ a i. pass_flags acc s r a i ∙ ap (λ (x : Bool). cond x 1 0) (same a));
}
  where
    cuts : SameCuts (theory_of ws) wide (shut (theory_of ws) never undecided atom_undecided) atom_never atom_never
    cuts = record { nodes = λ n l. h n ∙ (let q = the_nodes ws in let k : n < get_or ws 2 0 = omega arith in rw (lt-ltb n (get_or ws 2 0) k) refl); atoms = λ a l. refl }

    same : (a : ℕ) → missing (theory_of ws) wide atom_never a ≡ missing (theory_of ws) (shut (theory_of ws) never undecided atom_undecided) atom_never a
    same = missing_cuts (theory_of ws) acc.well_formed _ _ _ _ cuts
