-- How a reading is laid out in its frame: how many items, their marks, and where they end.
use Rattle.std.specs.Prelude.{ℕ, List, map, length, None, Ok, Err, Result, nat_le}
use Rattle.fault.specs.declared.Fault.{Fault}
use Rattle.fault.specs.declared.Layer.TheVariants.{Frame}
use Rattle.fault.specs.declared.Cause.TheVariants.{Malformed}
use Rattle.fault.specs.Codes.{fault}
use Rattle.inline_vec.specs.Lists.{items}
use Rattle.record.specs.Chains.{unless, and_then, tested}
use Rattle.record.specs.Formats.{Format, number, done, is, within, walk}
use Rattle.record.specs.Rules.{rising}
use Rattle.record.specs.Runs.{run, spotted}
use Rattle.reading.specs.declared.mark.ItemAt.{ItemAt}
use Rattle.reading.specs.declared.plan.Plan.{Plan}
use Rattle.reading.specs.Bodies.{ReadingBody}
use Rattle.reading.specs.Marks.{read_item_number, read_item_place, read_item_ends, read_item_stands, read_item_body}

-- 05, count
abbrev pub count_format : Format ℕ
count_format =
    number 1 (is 5) (λ kind.
    number 1 (within 1 16) (λ count.
    done count))

abbrev pub count_of : List ℕ → Result ℕ Fault
count_of bs = walk Frame count_format (λ n e. Ok n) bs 0

-- where the items of a reading stand
pub record Marks : Type 0 where
  pub count : ℕ
  pub items : List ItemAt
  pub end : ℕ

-- the last item ends the frame
abbrev pub with_end : List ℕ → ℕ → List ItemAt × ℕ → Result Marks Fault
with_end bs n p =
    unless (nat_le (length bs) p.1) (fault Malformed Frame p.1)
    (Ok (record { count = n; items = p.0; end = p.1 }))

-- the items stand behind the count
abbrev pub with_items : ℕ → List ℕ → ℕ → Result Marks Fault
with_items w bs n = and_then (run (read_item_stands w) read_item_ends bs n 2) (with_end bs n)

-- where the items of a frame in range stand
abbrev pub laid : ℕ → List ℕ → Result Marks Fault
laid w bs = and_then (count_of bs) (with_items w bs)

-- the rule behind rule 1, on marks
abbrev pub ordered : Marks → Result (Unit {0}) Fault
ordered m = tested (rising Frame None (spotted read_item_number read_item_place m.items))

-- what a frame whose items are marked holds
abbrev pub body_of : ℕ → List ℕ → Marks → ReadingBody
body_of w bs m = record { items = map (read_item_body w bs) m.items }

-- the marks in a plan
abbrev pub planned : Plan → Marks
planned p = record { count = length (items p.items); items = items p.items; end = p.end }

abbrev pub plan_seen : Result Plan Fault → Result Marks Fault
plan_seen (Ok p) = Ok (planned p)
plan_seen (Err f) = Err f
