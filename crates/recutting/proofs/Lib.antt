pub mod RecuttingLaws
