-- What the vertices of the queue are charged: at first nothing (`spent_none`), and then the charge of one more (`spent_next`; in the words that its turn leaves, `spent_cons`).
use mathlib.Core.Path.{◌≡◌, refl, sym, ap, ◌∙◌}
use mathlib.Core.List.{List, ◌∷◌}
use Prim.Native.Nat.{ℕ, ◌+◌}
use native.Mathlib.Numerals.{add-one}
use lib.ListN.{get_or, drop}
use lib.Seq.{get_or-drop}
use Rattle.theory.specs.Words.{theory_of}
use Rattle.theory.specs.Prefix.{upto}
use Rattle.area.specs.declared.Bases.{Bases}
use Rattle.area.specs.Views.{queued}
use Rattle.theory.specs.Charge.{sum_over, charge}
use Rattle.within.specs.Within.{spent}
use Rattle.theory.proofs.WorkLaws.{over_upto}

pub spent_none : (ws : List ℕ) (b : Bases) (w : List ℕ) → spent ws b w 0 ≡ 0
unfolding upto sum_over
spent_none ws b w = refl

pub spent_next : (ws : List ℕ) (b : Bases) (w : List ℕ) (head : ℕ) {v : ℕ} → v ≡ get_or w (b.queue + head) 0 → spent ws b w (head + 1) ≡ charge (theory_of ws) v + spent ws b w head
spent_next ws b w head e =
    rw (add-one head) (over_upto (charge (theory_of ws)) head (drop b.queue w)) ∙ ap (λ (x : ℕ). charge (theory_of ws) x + spent ws b w head) (get_or-drop b.queue w head 0 ∙ sym e)

pub spent_cons : (ws : List ℕ) (b : Bases) (w w' : List ℕ) (head : ℕ) {v : ℕ} → queued b w' (head + 1) ≡ v ∷ queued b w head → spent ws b w' (head + 1) ≡ charge (theory_of ws) v + spent ws b w head
unfolding sum_over
spent_cons ws b w w' head e = ap (sum_over (charge (theory_of ws))) e
