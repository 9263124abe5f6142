-- What `agreement` promises of a comparison, for what was read of a call's record.
use Rattle.std.specs.Prelude.{Bool, List, ℕ, length, take}
use Rattle.records.specs.declared.Check.{Check}
use Rattle.records.specs.declared.Needed.{Needed}
use Rattle.records.specs.declared.Prepare.{Prepare}
use Rattle.records.specs.declared.Complete.{Complete}
use Rattle.records.specs.declared.Run.{Run}
use Rattle.agreement.specs.Agreement.{CheckAgrees, NeededAgrees, PrepareAgrees, CompleteAgrees, ProgramAgrees}

abbrev pub CheckSaid : (graph : List ℕ) → Check → Bool → Type 0
CheckSaid graph s = CheckAgrees graph s.number s.place

abbrev pub NeededSaid : (graph : List ℕ) → Needed → Bool → Type 0
NeededSaid graph s = NeededAgrees graph s.work s.number s.place s.reply

abbrev pub PrepareSaid : (graph : List ℕ) → Prepare → Bool → Type 0
PrepareSaid graph s = PrepareAgrees graph (length s.output.items) s.work s.number s.place s.output.items

abbrev pub CompleteSaid : (graph : List ℕ) → Complete → Bool → Type 0
CompleteSaid graph s =
    CompleteAgrees graph s.never.items s.atom_never.items (length s.rest.output.items) s.rest.work s.rest.number s.rest.place s.rest.output.items

-- the input is what stands first in the lent bytes
abbrev pub RunSaid : (bytes : List ℕ) → Run → Bool → Type 0
RunSaid bytes s = ProgramAgrees (take s.input bytes) s.text.items
