-- What proofs by hand over the reader share, at words of any type: a reader taken apart for a callee on the slice and the number, and one that `chain_of` made of
-- them. The check finds these proofs alone. At the words of an edition each law is an instance: at `u16` and `words16`, at `u32` and `words32`, with
-- `goes_new_static` for `goes_new`. In a generic function the words' row is `copied 0 W`, with the laws `copied_laws 0 W`.
use mathlib.Core.Path.{◌≡◌, refl, sym, subst₂}
use Prim.Native.Nat.{ℕ, ◌<◌, ◌^◌}
use mathlib.Core.List.{List, [], ◌∷◌}
use lib.ListN.{length}
use seplogic.Ra.Ura.{Ura}
use mir.Syntax.{named, w64, Dict}
use mir.Val.{Val, vint}
use base.Logic.{SProp, ent, sep, emp, snd∗, ex_e}
use base.Fml.{Lft, Share, Fml, ftrue, flft}
use prog.Memory.{Memory}
use prog.Routine.{Routine}
use types.Logic.{Logic, sem}
use contract.BorrowLft.{◌⊑◌, ⊑_static}
use contract.Lifetimes.{Lfts}
use contract.Monad.{Fun, fact, fact_i}
use types.Kit.{‵, raw, ◌⊛◌, given, ⋆, ◌$◌, ◌∵◌, !, qed, move, drop, use0, use1, use2, split, join, learn, fsplit, fjoin, frame, done, by}
use denote.RattleType.{RattleType, owns}
use denote.Laws.{Is}
use denote.Plain.{uint_Makes}
use denote.Builtin.{u16, u32, usize}
use denote.Param.Laws.{Laws, of_field}
use denote.Param.Shared.{copy_shared}
use denote.Ref.{Bor}
use denote.Signature.{named_lft}
use denote.Slice.{slice_val, ShrSlice, shr_slice_copy}
use denote.Steps.{owned, nothing}
use denote.Struct.Declared.{Declared}
use denote.Struct.Field.{u16-field, u32-field}
use denote.Struct.Laws.{u16-laws, u16-copy, u32-laws, u32-copy}
use denote.Struct.Laws as LL
use denote.Struct.Rest.{all_own, field_own, rest, own_open, own_out}
use denote.Struct.Values.{Values}
use denote.Triple.Statement.{Contract}
use denote.Triple.Spec.{triple_of}
use denote.Triple.Clauses.{ensured, lasts}
use Rattle.std.specs.declared.clone.Clone
use Rattle.words.specs.declared.Word
use Rattle.graph.specs.Layout.{LinkIn}
use Rattle.graph.specs.declared.Chain.{Chain}
use Rattle.graph.specs.contracts.Chain as T
use Rattle.graph.proofs.Chain.TheLaws as T'
use Rattle.graph.specs.contracts.chain_of as new

-- the laws of the words of the two editions
pub words16 : Laws u16
words16 = of_field u16-field u16-laws refl (copy_shared u16-field u16-copy)

pub words32 : Laws u32
words32 = of_field u32-field u32-laws refl (copy_shared u32-field u32-copy)

-- the struct's type at the words' type R, over the signature's lifetimes
abbrev pub B : RattleType → Lfts 1 → RattleType
B R κs = T.the_row (named_lft 1 0 tt κs) R

-- the slice and the number as machine values
abbrev pub passed : {A : Type 0} → Bor (List A) → ℕ → List Val × (List Val × Unit {0})
passed s n = (slice_val s.ref_ptr (length s.now) ∷ [], (vint w64 n ∷ [], tt))

-- the slice, where the links begin, and the number
abbrev pub passed3 : {A : Type 0} → Bor (List A) → ℕ → ℕ → List Val × (List Val × (List Val × Unit {0}))
passed3 s f n = (slice_val s.ref_ptr (length s.now) ∷ [], (vint w64 f ∷ [], (vint w64 n ∷ [], tt)))

-- the contract of `chain_of` at words of the type W, with the members that a caller passes for its bounds
abbrev pub New : (W : RattleType) → Word.Ghosts W.Denot → Dict → Clone.Ghosts W.Denot → Dict → {M : Type 1} {𝓤 : Ura M} (𝓛 : Logic 𝓤) (mem : Memory → SProp 𝓤) (run : Routine → Fun 𝓤) → Contract 𝓤
New W word word_dict clone clone_dict 𝓛 mem run = triple_of 𝓛 (new.signature W) (new.spec W word word_dict clone clone_dict 𝓛 mem run)

module _ {M : Type 1} {𝓤 : Ura M} (𝓛 : Logic 𝓤) (κ : Lft) (q : Share) where
  -- what the struct owns gives what a callee on the slice and the number asks, and is kept: what the struct owns can be had twice
  module _ (R : RattleType) (words : Laws R) (d : Chain R.Denot) (f : ℕ) (low : f < 2 ^ 64) where
    abbrev D : Declared
    D = T.the_type (named_lft 1 0 tt (κ, tt)) R

    abbrev L : LL.Laws D
    L = T'.the_laws (named_lft 1 0 tt (κ, tt)) R words

    abbrev vd : Values D.parts
    vd = (d.words, (d.link, tt))

    abbrev mach : Val
    mach = T'.lowered (named_lft 1 0 tt (κ, tt)) R words d

    abbrev Own : Fml
    Own = (B R (κ, tt)).own_val d (mach ∷ [])

    pub apart : (X : SProp 𝓤)
        → ent 𝓤 (⋆ 𝓛 ((‵ (flft κ q) ⊛ ‵ ftrue) ∷ ‵ (owns (ShrSlice (named 0) κ R ∷ usize ∷ usize ∷ []) (d.words, (f, (d.link, tt))) (passed3 d.words f d.link)) ∷ [])) X → d.link < 2 ^ 64
        → ent 𝓤 (⋆ 𝓛 ((‵ (flft κ q) ⊛ ‵ ftrue) ∷ ‵ (owns (B R (κ, tt) ∷ usize ∷ []) (d, (f, tt)) (mach ∷ [], (vint w64 f ∷ [], tt))) ∷ [])) (sep 𝓤 X (sem 𝓛 Own))
    apart X asked fits =
        qed 𝓛 ((‵ (flft κ q) ⊛ ‵ ftrue) ∷ ‵ (owns (B R (κ, tt) ∷ usize ∷ []) (d, (f, tt)) (mach ∷ [], (vint w64 f ∷ [], tt))) ∷ []) ∵
        move ! (1 ∷ []) $ fsplit ! $ move ! (1 ∷ []) $ drop ! $ use1 𝓛 (‵ Own ⊛ ‵ Own) ((LL.copy D (T'.the_copy (named_lft 1 0 tt (κ, tt)) R words) 𝓛).twice d (mach ∷ [])) $ split ! $
        use1 𝓛 (given (mach ∷ [] ≡ mach ∷ []) (‵ (all_own D.parts L vd))) (own_open 𝓛 D L vd mach) $ learn ! (λ _. use1 𝓛 (‵ (field_own D.parts L 0 d.words) ⊛ ‵ (rest D.parts L 0 vd)) (own_out 𝓛 D.parts L 0 vd) $ split ! $
        -- [what words owns; what link owns; what the struct owns; the token]
        move ! (1 ∷ []) $ drop ! $ nothing ! $ owned ! usize (Is usize) (uint_Makes 𝓛 w64) d.link _ (refl, fits) $ fjoin ! $ owned ! usize (Is usize) (uint_Makes 𝓛 w64) f _ (refl, low) $ fjoin ! $ move ! (1 ∷ 0 ∷ []) $ fjoin ! $
        move ! (2 ∷ 0 ∷ []) $ use2 𝓛 (raw X) asked $ frame ! $ done !)

  -- the call of `chain_of` on the slice s and the number n, of s, f and n that were passed, and what it says. κw is the lifetime of the words' type, which outlives the slice's
  module _ (W : RattleType) (words : Laws W) (word : Word.Ghosts W.Denot) (word_dict : Dict) (clone : Clone.Ghosts W.Denot) (clone_dict : Dict) (mem : Memory → SProp 𝓤) (run : Routine → Fun 𝓤) (s : Bor (List W.Denot)) (f n : ℕ) where
    abbrev v : Val
    v = slice_val s.ref_ptr (length s.now)

    abbrev pub Held : Fml
    Held = (ShrSlice (named 0) κ W).own_val s (v ∷ [])

    abbrev Called : Contract 𝓤
    Called = New W word word_dict clone clone_dict 𝓛 mem run

    abbrev pub to_new : (κw : Lft) → Share → κ ⊑ κw → Called.Ghost
    to_new κw qw outlives = (((κ, (κw, tt)), (q, (qw, tt)), (outlives, tt), (s, (n, tt)), passed s n), tt)

    pub goes_new : (κw : Lft) (qw : Share) (outlives : κ ⊑ κw) → κw ⊑ W.lives
        → ent 𝓤 (⋆ 𝓛 ((‵ (flft κ q) ⊛ ‵ (flft κw qw) ⊛ ‵ ftrue) ∷ ‵ (owns (ShrSlice (named 0) κ W ∷ usize ∷ usize ∷ []) (s, (f, (n, tt))) (passed3 s f n)) ∷ [])) (sep 𝓤 (Called.pre (to_new κw qw outlives)) (sem 𝓛 Held))
    goes_new κw qw outlives lives =
        qed 𝓛 ((‵ (flft κ q) ⊛ ‵ (flft κw qw) ⊛ ‵ ftrue) ∷ ‵ (owns (ShrSlice (named 0) κ W ∷ usize ∷ usize ∷ []) (s, (f, (n, tt))) (passed3 s f n)) ∷ []) ∵
        move ! (1 ∷ []) $ fsplit ! $ move ! (1 ∷ []) $ fsplit ! $ drop ! $ move ! (1 ∷ []) $ use1 𝓛 (‵ Held ⊛ ‵ Held) ((shr_slice_copy 𝓛 (named 0) κ W words.shr_laws).twice s (v ∷ [])) $ split ! $
        move ! (0 ∷ 2 ∷ []) $ fjoin ! $ move ! (2 ∷ 0 ∷ []) $ use2 𝓛 (raw (Called.pre (to_new κw qw outlives)))
        (qed 𝓛 ((‵ (flft κ q) ⊛ ‵ (flft κw qw) ⊛ ‵ ftrue) ∷ ‵ (owns (ShrSlice (named 0) κ W ∷ usize ∷ []) (s, (n, tt)) (passed s n)) ∷ []) ∵
        join ! $ frame ! $ use0 𝓛 (raw (fact 𝓤 (κw ⊑ W.lives))) (fact_i 𝓤 (κw ⊑ W.lives) (emp 𝓤) lives) $ frame ! $ done !) $ frame ! $ done !

    -- a type that names no lifetime, as `u16` and `u32`, lives as long as `'static`, whose token says nothing
    pub goes_new_static : [] ⊑ W.lives
        → ent 𝓤 (⋆ 𝓛 ((‵ (flft κ q) ⊛ ‵ ftrue) ∷ ‵ (owns (ShrSlice (named 0) κ W ∷ usize ∷ usize ∷ []) (s, (f, (n, tt))) (passed3 s f n)) ∷ [])) (sep 𝓤 (Called.pre (to_new [] q (⊑_static κ))) (sem 𝓛 Held))
    goes_new_static lives =
        qed 𝓛 ((‵ (flft κ q) ⊛ ‵ ftrue) ∷ ‵ (owns (ShrSlice (named 0) κ W ∷ usize ∷ usize ∷ []) (s, (f, (n, tt))) (passed3 s f n)) ∷ []) ∵
        split ! $ use0 𝓛 (‵ (flft [] q)) (𝓛.lfts.lft-nil q) $ move ! (0 ∷ 2 ∷ []) $ join ! $ move ! (1 ∷ 0 ∷ []) $ join ! $
        by ! (goes_new [] q (⊑_static κ) lives)

    abbrev pub IsNew : Chain W.Denot → Type 0
    IsNew r = (r.words ≡ s) × (r.link ≡ n)

    pub new_said : (κw : Lft) (r : Chain W.Denot) → ent 𝓤 (ensured 𝓛 (new.ended W word word_dict clone clone_dict) (new.clauses W word word_dict clone clone_dict 𝓛 mem run) (κ, (κw, tt)) (s, (n, tt)) tt r) (fact 𝓤 (IsNew r))
    new_said κw r = ex_e 𝓤 _ (λ ws. snd∗ 𝓤 (sem 𝓛 (lasts (new.ended W word word_dict clone clone_dict) (κ, (κw, tt)) (s, (n, tt)) ws)) (fact 𝓤 (IsNew r)))

-- what is asked of the slice and the numbers is asked of the struct made of them; `numbers` are the numbers that the words are
pub same : {A : Type 0} (numbers : List A → List ℕ) {s : Bor (List A)} {f n : ℕ} (r : Chain A) → r.words ≡ s → r.link ≡ n → LinkIn (numbers s.now) f n → LinkIn (numbers r.words.now) f r.link
same {A} numbers {f = f} r e g w = subst₂ (λ (x : Bor (List A)) (m : ℕ). LinkIn (numbers x.now) f m) (sym e) (sym g) w
