use Rattle.initialization.proofs.StartLaws.{fact_accepted, fact_follows, fact_drives}
use Rattle.initialization.proofs.FactsStep.step.Goals as goal

pub heads-requires : goal.heads-requires
heads-requires g c = record { accepted = fact_accepted c.requires; follows = fact_follows c.requires }

pub returns : goal.returns
returns g c = fact_drives c.heads.ensures
