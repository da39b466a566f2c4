-- What the program prints for a question, as texts. Assumes nothing: these are definitions.
use Rattle.std.specs.Prelude.{Bool, cond, List, ◌++◌, ℕ, eqb, get_or, replicate}
use Rattle.base_lists.specs.Lists.{join_from}
use Rattle.plan_format.specs.Sizes.{table_numbers, list_numbers}
use Rattle.plan_format.specs.declared.Told.{Told}
use Rattle.frontier.specs.declared.Frontier.{Frontier}
use Rattle.ask_reuse.specs.Reuse.{ReuseAsked}
use Rattle.ask_frontier.specs.SentMeaning.{FrontierRight}
use Rattle.ask_frontier.specs.declared.Sent.{Sent}
use Rattle.base_text.specs.Ascii.{ascii}
use Rattle.base_text.specs.Text.{Puts, decimal, after_blank, or_refused}

-- R58: the name of a verdict's number, after a blank
unfoldable pub verdict_name : (number : ℕ) → List ℕ
verdict_name n =
    cond (eqb n 0) (ascii " fresh")
    (cond (eqb n 1) (ascii " reusable")
    (cond (eqb n 2) (ascii " held") (ascii " not-ordered")))

-- R74, the line of a verdict: its number and its name
unfoldable pub verdict_text : (number : ℕ) → List ℕ
verdict_text n = ascii "verdict" ++ after_blank n ++ verdict_name n ++ ascii "\n"

-- the text of a reuse question
pub record ReusePrinted (bytes : List ℕ) (queue buffer : ℕ) (room room_now : List ℕ) (end : ℕ) : Type 0 where
  pub told : Told
  pub table : List ℕ
  pub list : List ℕ
  pub asked : ReuseAsked bytes queue buffer told (replicate table_numbers 0) table (replicate list_numbers 0) list
  pub text : Puts (or_refused told.number told.place (verdict_text told.answer)) room 0 room_now end

-- whether something was cut
unfoldable pub whole_words : (tainted : Bool) → List ℕ
whole_words t = cond t (ascii "frontier tainted") (ascii "frontier whole")

-- AXIS:EPOCH after a blank, and that of a slot
abbrev pub entry_of : (axis epoch : ℕ) → List ℕ
entry_of axis epoch = after_blank axis ++ ascii ":" ++ decimal epoch

unfoldable pub entry_text : (axes epochs : List ℕ) → (i : ℕ) → List ℕ
entry_text axes epochs i = entry_of (get_or axes i 0) (get_or epochs i 0)

-- R74, the line of a frontier
unfoldable pub frontier_text : Frontier → List ℕ
frontier_text f = whole_words f.tainted ++ join_from f.len 0 (entry_text f.axes f.epochs) ++ ascii "\n"

-- the text of the frontier sent out for an operation
pub record FrontierPrinted (bytes : List ℕ) (operation capacity : ℕ) (room room_now : List ℕ) (end : ℕ) : Type 0 where
  pub sent : Sent
  pub table : List ℕ
  pub list : List ℕ
  pub right :
      FrontierRight bytes operation capacity sent (replicate table_numbers 0) table (replicate list_numbers 0) list
  pub text : Puts (or_refused sent.number sent.place (frontier_text sent.frontier)) room 0 room_now end
