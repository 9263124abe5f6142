-- What a replay does to the scores: each call, or run, is compared as `agreement` promises, and counted at its own place and nowhere else.
use Rattle.std.specs.Prelude.{◌≡◌, List, ℕ, ◌+◌}
use Rattle.scoring.specs.declared.Scores.{Scores}
use Rattle.scoring.specs.Scores.{Scored}
use Rattle.scoring.specs.Said.{CheckSaid, NeededSaid, PrepareSaid, CompleteSaid, RunSaid}
use Rattle.records.specs.declared.Kind.{Kind}
use Rattle.records.specs.declared.Kind.TheVariants.{Graph, Run}
use Rattle.records.specs.declared.Check.{Check}
use Rattle.records.specs.declared.Needed.{Needed}
use Rattle.records.specs.declared.Prepare.{Prepare}
use Rattle.records.specs.declared.Complete.{Complete}
use Rattle.records.specs.declared.Run.{Run as Ran}

-- one call on the graph
pub data Replayed (graph : List ℕ) (s t : Scores) : Type 0 where
  check : (said : Check) → Scored (CheckSaid graph said) s.check t.check → t ≡ record s { check = t.check } → Replayed graph s t
  needed : (said : Needed) → Scored (NeededSaid graph said) s.needed t.needed → t ≡ record s { needed = t.needed } → Replayed graph s t
  prepare : (said : Prepare) → Scored (PrepareSaid graph said) s.prepare t.prepare → t ≡ record s { prepare = t.prepare } → Replayed graph s t
  complete : (said : Complete) → Scored (CompleteSaid graph said) s.complete t.complete → t ≡ record s { complete = t.complete } → Replayed graph s t

-- n calls on the graph, one after the other
pub data Calls (graph : List ℕ) (s : Scores) : ℕ → Scores → Type 0 where
  none : Calls graph s 0 s
  more : {n : ℕ} {t u : Scores} → Calls graph s n t → Replayed graph t u → Calls graph s (n + 1) u

-- one run of the program, on what was read into the front of these bytes
pub record RunReplayed (s t : Scores) : Type 0 where
  pub bytes : List ℕ
  pub said : Ran
  pub run : Scored (RunSaid bytes said) s.program t.program
  pub others : t ≡ record s { program = t.program }

-- the calls on one graph
pub record GraphReplayed (s t : Scores) : Type 0 where
  pub graph : List ℕ
  pub n : ℕ
  pub calls : Calls graph s n t

-- a record, by its kind
abbrev pub RecordReplayed : Kind → (s t : Scores) → Type 0
RecordReplayed Graph = GraphReplayed
RecordReplayed Run = RunReplayed
