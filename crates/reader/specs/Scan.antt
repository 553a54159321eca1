-- Reading, as the code does it: one reader for all sorts of nodes, which goes by the sort that a node must be of where it stands and
-- by the table of kinds, and answers the work words of what it read. proofs/ScanExact.antt shows that it reads what the rules' reader reads.
use Rattle.std.specs.Prelude.{ℕ, zero, suc, cond, List, [], ◌∷◌, ◌++◌, Some, None, Result, Ok}
use Rattle.std.specs.Prelude as Prelude
use Rattle.std.proofs.Math.Option.{Option, none, some}
use Rattle.rules.specs.Answers.{refused_at}
use Rattle.rules.specs.declared.refusals.Refused.{Refused}
use Rattle.rules.specs.declared.refusals.Refusal.TheVariants as Refusals
use Rattle.rules.specs.paper.Kinds.{kind_number, kind_of, operand_fits, child_sorts, is_of}
use Rattle.rules.specs.declared.kinds.Kind.{Kind}
use Rattle.rules.specs.declared.kinds.Sort.{Sort}
use Rattle.rules.specs.paper.Reader.{Read, ◌>>=◌, give, refuse, node}
use Rattle.reader.specs.Pack.{node_words}

-- A kind, where it is of this sort.
abbrev pub accepting : Sort → Kind → Option Kind
accepting sort k = cond (is_of sort k) (some k) none

-- The kind with this number, if there is one.
abbrev pub found_kind : Option Kind → Prelude.Option Kind
found_kind none = None
found_kind (some k) = Some k

unfoldable pub kind_at : ℕ → Prelude.Option Kind
kind_at n = found_kind (kind_of n)

-- A node's own checks but its depth, from its number and its operand: its kind, a wrong sort, its operand. The kind of one that passes them.
abbrev pub passing_by : Sort → (operand place : ℕ) → Option Kind → Result Kind Refused
passing_by sort w p none = refused_at Refusals.Kind p
passing_by sort w p (some k) = cond (is_of sort k) (cond (operand_fits k w) (Ok k) (refused_at Refusals.Operand p)) (refused_at Refusals.Tree p)

unfoldable pub passing : Sort → (number operand place : ℕ) → Result Kind Refused
passing sort n w p = passing_by sort w p (kind_of n)

-- Children one after the other, each by its sort.
unfoldable pub scan_list : (Sort → Read (List ℕ)) → List Sort → Read (List ℕ)
scan_list one [] = give []
scan_list one (s ∷ sorts) = one s >>= λ a. scan_list one sorts >>= λ b. give (a ++ b)

-- A node with its descendants, with this many levels of depth left for it.
unfoldable pub scan : (levels : ℕ) → Sort → Read (List ℕ)
scan zero sort = node (accepting sort) >>= λ h. refuse Refusals.Depth h.place
scan (suc d) sort =
    node (accepting sort) >>= λ h.
    scan_list (scan d) (child_sorts h.kind h.operand) >>= λ below.
    give (node_words (kind_number h.kind) h.operand h.place below)
