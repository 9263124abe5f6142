-- A pair's list from the counts that a pass leaves.
use mathlib.Core.Path.{◌≡◌, refl, sym, ap, ◌∙◌}
use mathlib.Core.Bool.{Bool, cond}
use mathlib.Core.List.{List, ◌++◌}
use Prim.Native.Nat.{ℕ, ◌+◌, ◌*◌, ◌≤◌, ◌<◌}
use native.Mathlib.Omega.{arith}
use lib.Dec.{eqb}
use native.Mathlib.Nat.{zero-mul}
use lib.ListN.{length, get_or, take, drop}
use Rattle.theory.specs.Sets.{Set}
use Rattle.theory.specs.Words.{theory_of, bit_at}
use Rattle.theory.specs.Founded.{cyclic, cyclic_cone, missing}
use Rattle.mask.specs.Mask.{words_of, pack}
use Rattle.mask.proofs.MaskLaws.{mask_length}
use Rattle.area.specs.declared.Bases.{Bases}
use Rattle.area.specs.Layout.{Based}
use Rattle.preparation.specs.Stages.{Waiting}
use Rattle.founded.proofs.OutputLaws.{flags_pack}
use Rattle.branch.specs.Answers.{part_of, missing_of}

pub waiting_list : {ws : List ℕ} {b : Bases} {words : ℕ} → Based ws words b → {never atom_never : Set} {w : List ℕ} → Waiting ws (cyclic (theory_of ws)) (cyclic_cone (theory_of ws)) never atom_never b w
    → pack b.atoms (λ a. eqb (get_or w (b.dependencies + a) 0) 1) ≡ pack (get_or ws 1 0) (missing (theory_of ws) never atom_never)
unfolding missing
waiting_list {ws} {b} based {never} {atom_never} {w} k = flags_pack b.dependencies w (missing (theory_of ws) never atom_never) based.atoms k.flags

pub missing_words : (ws never atom_never : List ℕ) (k : ℕ) → length (missing_of ws never atom_never k) ≡ words_of (get_or ws 1 0)
missing_words ws never atom_never k = mask_length (words_of (get_or ws 1 0)) _

-- pair k, with its part written between what stood before and behind; n and a: the words of a node mask and of an atom mask
module _ {ws : List ℕ} {b : Bases} {words : ℕ} (based : Based ws words b) (never atom_never output : List ℕ) {part w : List ℕ} {n a : ℕ} (en : n ≡ words_of b.nodes) (ea : a ≡ words_of b.atoms)
    (is : part ≡ pack b.atoms (λ x. eqb (get_or w (b.dependencies + x) 0) 1)) where
  pub pair_list : (k m o : ℕ) → m ≡ n → o ≡ a → Waiting ws (cyclic (theory_of ws)) (cyclic_cone (theory_of ws)) (bit_at (take m (drop (k * n) never))) (bit_at (take o (drop (k * a) atom_never))) b w
      → take (k * a) output ++ (part ++ drop o (drop (k * a) output)) ≡ take (k * words_of (get_or ws 1 0)) output ++ (missing_of ws never atom_never k ++ drop (words_of (get_or ws 1 0)) (drop (k * words_of (get_or ws 1 0)) output))
  pair_list k m o em eo h = rw (is ∙ waiting_list based h, em, eo, en ∙ ap words_of based.nodes, ea ∙ ap words_of based.atoms) refl

  pub first_list : Waiting ws (cyclic (theory_of ws)) (cyclic_cone (theory_of ws)) (bit_at (take n never)) (bit_at (take a atom_never)) b w
      → part ++ drop a output ≡ take (0 * words_of (get_or ws 1 0)) output ++ (missing_of ws never atom_never 0 ++ drop (words_of (get_or ws 1 0)) (drop (0 * words_of (get_or ws 1 0)) output))
  first_list h = rw (zero-mul (words_of (get_or ws 1 0)), zero-mul (words_of (get_or ws 2 0)), is ∙ waiting_list based h, en ∙ ap words_of based.nodes, ea ∙ ap words_of based.atoms) refl
