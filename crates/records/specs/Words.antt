-- What the words say that choose: the kind of a record, and the call.
use Rattle.std.specs.Prelude.{ℕ, ◌==◌, if◌then◌else◌, Result, Ok, Err}
use Rattle.records.specs.declared.Kind.{Kind}
use Rattle.records.specs.declared.Kind.TheVariants.{Graph, Run}
use Rattle.records.specs.declared.Call.{Call}
use Rattle.records.specs.declared.Call.TheVariants.{Check, Needed, Prepare, Complete}
use Rattle.records.specs.declared.Unknown.{Unknown}

abbrev pub kind_of : ℕ → Result Kind Unknown
kind_of word = if word == 1 then Ok Graph else (if word == 2 then Ok Run else Err (record { word = word }))

abbrev pub call_of : ℕ → Result Call Unknown
call_of word =
    if word == 1 then Ok Check
    else (if word == 2 then Ok Needed
    else (if word == 3 then Ok Prepare
    else (if word == 4 then Ok Complete
    else Err (record { word = word }))))
