-- A refusal has a number other than 0, and `?` passes it on as it is.
use mathlib.Core.Path.{◌≡◌, refl, ap}
use mathlib.Core.Bool.{false}
use lib.Dec.{eqb}
use Rattle.std.specs.Prelude.{Result, Ok, Err}
use Rattle.std.specs.Result.{IsErrAnd}
use Rattle.refusals.specs.declared.Refusal.{Refusal}
use Rattle.refusals.specs.declared.Refusal.TheVariants.{Edition, Counts, Size, Node, Producer, Link, Back, Leaf, Head, Entries}
use Rattle.refusals.specs.Refusals.{refused_as, answer_of}

pub number_some : (e : Refusal) → eqb (refused_as e).number 0 ≡ false
number_some Edition = refl
number_some Counts = refl
number_some Size = refl
number_some (Node n) = refl
number_some (Producer p) = refl
number_some (Link l) = refl
number_some (Back i) = refl
number_some (Leaf n) = refl
number_some (Head p) = refl
number_some Entries = refl

-- what `?` says of the error that it made
pub is_error : {T E : Type 0} (e : E) (r : Result T E) → IsErrAnd r (λ x. x ≡ e) → r ≡ Err e
is_error e (Ok u) h = absurd h
is_error e (Err x) h = ap (λ y. Err y) h

pub passed_on : (e : Refusal) (r : Result (Unit {0}) Refusal) → IsErrAnd r (λ x. x ≡ e) → answer_of r ≡ refused_as e
passed_on e r h = ap answer_of (is_error e r h)
