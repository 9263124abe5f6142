use mathlib.Core.Path.{sym, ◌∙◌}
use native.Mathlib.Omega.{arith}
use Rattle.std.proofs.Common.{rules}
use lib.ListN.{get_or}
use mathlib.Core.Path.{refl}
use borrow.Author.Tests.{lt-ltb, le-ltb}
use Rattle.theory.specs.Words.{theory_of}
use Rattle.theory.specs.Accepted.{leaf_entries, head_entries}
use Rattle.graph.specs.Layout.{leaf_link, head_link}
use Rattle.refusals.specs.Answer.{first_refusal}
use Rattle.refusals.specs.Refusals.{graph_rows, bad_entries}
use Rattle.checking.proofs.TableLaws.{row_told, row_passed}
use Rattle.checking.proofs.rows.check_entries.Goals as goal

pub returns-in_err-leaves : goal.returns-in_err-leaves
unfolding graph_rows
returns-in_err-leaves g c =
    let ws = g.W.Word.numbers c.args.graph.now in
    row_told _ _ _ c.from_residual.ensures.1 (rw c.nodes.ensures at (c.in_err-leaves.ensures (leaf_link ws) (λ n. n) 7 (search rules) (search rules) (search rules)))

pub returns-in_err-heads : goal.returns-in_err-heads
unfolding graph_rows
returns-in_err-heads g c =
    let ws = g.W.Word.numbers c.args.graph.now in
    let leaves = rw c.nodes.ensures at (c.in_ok-leaves.ensures (leaf_link ws) (λ n. n) 7 (search rules) (search rules) (search rules)) in
    row_told _ _ _ c.from_residual-in_err-heads.ensures.1 (rw c.producers.ensures at (c.in_err-heads.ensures (head_link ws) (λ p. get_or ws 1 0) 8 (search rules) (search rules) (search rules))) ∙ sym (row_passed _ (sym leaves.1))

pub returns-then-ENTRIES-leaves : goal.returns-then-ENTRIES-leaves
unfolding graph_rows first_refusal bad_entries theory_of
returns-then-ENTRIES-leaves g c =
    let ws = g.W.Word.numbers c.args.graph.now in
    let limits = g.met.W.Word.limits in
    let leaves = rw c.nodes.ensures at (c.in_ok-leaves.ensures (leaf_link ws) (λ n. n) 7 (search rules) (search rules) (search rules)) in
    let heads = rw c.producers.ensures at (c.in_ok-heads.ensures (head_link ws) (λ p. get_or ws 1 0) 8 (search rules) (search rules) (search rules)) in
    rw (leaves.1, heads.1, lt-ltb g.W.Word.edition.entries (leaf_entries (theory_of ws)) (omega (arith, leaves.0))) refl

pub returns-then-ENTRIES-heads : goal.returns-then-ENTRIES-heads
unfolding graph_rows first_refusal bad_entries theory_of
returns-then-ENTRIES-heads g c =
    let ws = g.W.Word.numbers c.args.graph.now in
    let limits = g.met.W.Word.limits in
    let leaves = rw c.nodes.ensures at (c.in_ok-leaves.ensures (leaf_link ws) (λ n. n) 7 (search rules) (search rules) (search rules)) in
    let heads = rw c.producers.ensures at (c.in_ok-heads.ensures (head_link ws) (λ p. get_or ws 1 0) 8 (search rules) (search rules) (search rules)) in
    rw (leaves.1, heads.1, le-ltb g.W.Word.edition.entries (leaf_entries (theory_of ws)) (omega (arith, leaves.0)), lt-ltb g.W.Word.edition.entries (head_entries (theory_of ws)) (omega (arith, heads.0))) refl

pub returns : goal.returns
unfolding graph_rows first_refusal bad_entries theory_of
returns g c =
    let ws = g.W.Word.numbers c.args.graph.now in
    let limits = g.met.W.Word.limits in
    let leaves = rw c.nodes.ensures at (c.in_ok-leaves.ensures (leaf_link ws) (λ n. n) 7 (search rules) (search rules) (search rules)) in
    let heads = rw c.producers.ensures at (c.in_ok-heads.ensures (head_link ws) (λ p. get_or ws 1 0) 8 (search rules) (search rules) (search rules)) in
    rw (leaves.1, heads.1, le-ltb g.W.Word.edition.entries (leaf_entries (theory_of ws)) (omega (arith, leaves.0)), le-ltb g.W.Word.edition.entries (head_entries (theory_of ws)) (omega (arith, heads.0))) refl
