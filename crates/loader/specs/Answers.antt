-- What loading an image leaves: the answer, and the tree in the work words.
use Rattle.std.specs.Prelude.{ℕ, ◌<◌, ◌≡◌, List, length, Result, Ok}
use Rattle.rules.specs.paper.Limits.{codes, work_words}
use Rattle.rules.specs.declared.refusals.Refusal.{Refusal}
use Rattle.rules.specs.declared.refusals.Refused.{Refused}
use Rattle.rules.specs.Answers.{refused_at}
use Rattle.rules.specs.paper.Tree.{Root}
use Rattle.rules.specs.declared.kinds.Passed.{Passed}
use Rattle.rules.specs.declared.kinds.Passed.TheVariants.{Expression as expression_of_code}
use Rattle.rules.specs.paper.Engine.{Checked, turned_back, passed}
use Rattle.rules.specs.claims.Listing.{root_nodes}
use Rattle.reader.specs.Stored.{RootAt}
use Rattle.reader.specs.Put.{KeptBeyond}
use Rattle.loader.specs.declared.Loaded.{Loaded}

-- The image is turned back.
pub record LoadRefused (x : Refusal) (place : ℕ) (r : Result Loaded Refused) (before after : List ℕ) : Type 0 where
  pub answer : r ≡ refused_at x place
  pub beyond : KeptBeyond work_words before after

-- The image passes: its tree, of as many nodes as the answer says, stands in the work words. The code of an expression is a type code.
pub record LoadPassed (registers : ℕ) (t : Root) (c : Passed) (r : Result Loaded Refused) (before after : List ℕ) : Type 0 where
  pub answer : r ≡ Ok (record { root = c; registers = registers; nodes = length (root_nodes t) })
  pub stands : RootAt after (length (root_nodes t)) t
  pub code_low : (k : ℕ) → c ≡ expression_of_code k → k < codes
  pub beyond : KeptBeyond work_words before after

abbrev pub LoadAnswer : Checked → Result Loaded Refused → (before after : List ℕ) → Type 0
LoadAnswer (turned_back x p) r before after = LoadRefused x p r before after
LoadAnswer (passed registers t c) r before after = LoadPassed registers t c r before after
