-- Where the machine's regions stand in the work words, behind the tree's nodes, and how a word of each is made up. The code has the same in
-- layout.rt.
use Rattle.std.specs.Prelude.{ℕ, ◌+◌, ◌-◌, ◌*◌}
use Rattle.rules.specs.paper.Limits.{names, most_cells, most_bindings, most_value_entries, most_control_entries}
use Rattle.rules.specs.paper.Kinds.{kind_number}
use Rattle.rules.specs.declared.kinds.ExpressionKind.TheVariants.{Not as negation, Binary as binary}
use Rattle.rules.specs.declared.kinds.CommandKind.TheVariants.{Assign as assign, Loop as loop, CSeq as cseq, Blk as blk, Call as call, Cond as conditional}
use Rattle.rules.specs.declared.kinds.DeclarationKind.TheVariants.{Bind as bind, DSeq as dseq}
use Rattle.rules.specs.declared.kinds.Kind.TheVariants.{Expression as expression_kind, Command as command_kind, Declaration as declaration_kind, Ref as ref, Abs as abs}
use Rattle.rules.specs.paper.States.{Mark, operator_mark, not_mark, assign_mark, loop_mark, conditional_mark, ref_mark, bind_mark, dseq_extend_mark, dseq_join_mark, extend_mark, leave_mark, call_mark}

-- ---- The regions, one behind the other.

-- control, one word an entry
abbrev pub control_from : ℕ
control_from = 2048

-- the value stack, two words an entry
abbrev pub value_payloads : ℕ
value_payloads = control_from + most_control_entries

abbrev pub value_labels : ℕ
value_labels = value_payloads + most_value_entries

-- the rows, two words a live binding
abbrev pub row_labels : ℕ
row_labels = value_labels + most_value_entries

abbrev pub row_payloads : ℕ
row_payloads = row_labels + most_bindings

-- the cells, two words a cell
abbrev pub cell_payloads : ℕ
cell_payloads = row_payloads + most_bindings

abbrev pub cell_labels : ℕ
cell_labels = cell_payloads + most_cells

-- The entry on top of a stack stands at the height plus the word before the region, the one below it a word before that.
abbrev pub top_control : ℕ
top_control = control_from - 1

abbrev pub top_payload : ℕ
top_payload = value_payloads - 1

abbrev pub second_payload : ℕ
second_payload = value_payloads - 2

abbrev pub third_payload : ℕ
third_payload = value_payloads - 3

abbrev pub top_label : ℕ
top_label = value_labels - 1

abbrev pub second_label : ℕ
second_label = value_labels - 2

-- A pointer is one more than the number of its row.
abbrev pub row_at_pointer : ℕ
row_at_pointer = row_labels - 1

-- ---- The words.

-- A row's label: its name, the label of what it binds, and the pointer of the row below it.
abbrev pub label_unit : ℕ
label_unit = 64

abbrev pub pointer_unit : ℕ
pointer_unit = 128

abbrev pub link : (name label pointer : ℕ) → ℕ
link x t q = x + label_unit * t + pointer_unit * q

-- A closure: the place of its Abs, and the pointer of its environment.
abbrev pub closure_unit : ℕ
closure_unit = 2048

-- An entry of control: a node is its place, and a mark is above all places, with its number and what it carries.
abbrev pub mark_base : ℕ
mark_base = 2048

abbrev pub mark_numbers : ℕ
mark_numbers = 64

abbrev pub carried_unit : ℕ
carried_unit = 4096

-- where the count of a Call's mark begins, behind its name
abbrev pub count_unit : ℕ
count_unit = carried_unit * names

-- The number of a mark: that of the kind that it belongs to. A block's second mark has the number of CSeq and a DSeq's first that of Abs,
-- which have no mark of their own.
abbrev pub mark_number : Mark → ℕ
mark_number (operator_mark o) = kind_number (expression_kind (binary o))
mark_number not_mark = kind_number (expression_kind negation)
mark_number assign_mark = kind_number (command_kind assign)
mark_number loop_mark = kind_number (command_kind loop)
mark_number conditional_mark = kind_number (command_kind conditional)
mark_number (leave_mark p n) = kind_number (command_kind cseq)
mark_number extend_mark = kind_number (command_kind blk)
mark_number (call_mark p x k) = kind_number (command_kind call)
mark_number bind_mark = kind_number (declaration_kind bind)
mark_number dseq_extend_mark = kind_number abs
mark_number dseq_join_mark = kind_number (declaration_kind dseq)
mark_number ref_mark = kind_number ref

-- The word of a mark that carries nothing, and of one that carries the live bindings to go back to, or a Call's operand.
abbrev pub plain_word : Mark → ℕ
plain_word k = mark_base + mark_number k

abbrev pub leave_word : (bindings : ℕ) → ℕ
leave_word n = mark_base + kind_number (command_kind cseq) + carried_unit * n

abbrev pub call_word : (operand : ℕ) → ℕ
call_word w = mark_base + kind_number (command_kind call) + carried_unit * w

abbrev pub mark_word : Mark → ℕ
mark_word (operator_mark o) = plain_word (operator_mark o)
mark_word not_mark = plain_word not_mark
mark_word assign_mark = plain_word assign_mark
mark_word loop_mark = plain_word loop_mark
mark_word conditional_mark = plain_word conditional_mark
mark_word (leave_mark p n) = leave_word n
mark_word extend_mark = plain_word extend_mark
mark_word (call_mark p x k) = call_word (x + names * k)
mark_word bind_mark = plain_word bind_mark
mark_word dseq_extend_mark = plain_word dseq_extend_mark
mark_word dseq_join_mark = plain_word dseq_join_mark
mark_word ref_mark = plain_word ref_mark
