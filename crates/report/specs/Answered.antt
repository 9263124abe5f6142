-- What the program knows before it writes: a refusal, or what the two lines say.
use Rattle.std.specs.Prelude.{◌≡◌, Bool, List, ℕ, ◌<◌, length, get_or, Result, OnOk, IfOk, IfErr}
use Rattle.theory.specs.Words.{theory_of, bit_at}
use Rattle.theory.specs.Accepted.{edition1}
use Rattle.theory.specs.Founded.{has_cycle, missing}
use Rattle.mask.specs.Mask.{words_of, pack}
use Rattle.refusals.specs.Answer.{Answer, accept}
use Rattle.refusals.specs.Refusals.{graph_answer}
use Rattle.founded.specs.declared.CallError.{CallError}
use Rattle.founded.specs.Answers.{turned_as}

-- the error is the answer's refusal, and its place fits its line
pub record Refuses (a : Answer) (e : CallError) : Type 0 where
  pub same : a ≡ turned_as e
  pub place_low : (turned_as e).place < 65536

-- an error exactly if the answer refuses, and then that refusal
pub record Says {A : Type 0} (a : Answer) (r : Result A CallError) : Type 0 where
  pub ok : OnOk r (a.number ≡ 0)
  pub err : IfErr r (Refuses a)

-- what is known once the graph is accepted and the masks are decoded
pub record Ready (graph never atom_never output : List ℕ) : Type 0 where
  pub accepted : graph_answer edition1 graph ≡ accept
  pub node_words : length never ≡ words_of (get_or graph 2 0)
  pub atom_words : length atom_never ≡ words_of (get_or graph 1 0)
  pub output_words : length output ≡ words_of (get_or graph 1 0)

-- the answer; without a refusal the loop test's reply, and in the output the missing atoms
pub record Answered (a : Answer) (graph never atom_never output : List ℕ) (r : Result Bool CallError) : Type 0 where
  pub says : Says a r
  pub cycle : IfOk r (λ yes. yes ≡ has_cycle (theory_of graph))
  pub listed : OnOk r (output ≡ pack (get_or graph 1 0) (missing (theory_of graph) (bit_at never) (bit_at atom_never)))
