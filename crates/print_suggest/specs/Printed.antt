-- What the program prints for the question for a wait, as texts (R91). Assumes nothing: these are definitions.
use Rattle.std.specs.Prelude.{List, ◌++◌, ℕ, replicate}
use Rattle.plan_format.specs.Sizes.{table_numbers, list_numbers}
use Rattle.plan_suggest.specs.declared.Advice.{Advice}
use Rattle.plan_suggest.specs.declared.Advice.TheVariants.{NoneNeeded, Wait, NoneWouldHelp}
use Rattle.plan_suggest.specs.Promise.{SuggestRight}
use Rattle.ask_suggest.specs.SuggestPass.{told}
use Rattle.ask_suggest.specs.declared.Suggested.{Suggested}
use Rattle.base_text.specs.Ascii.{ascii}
use Rattle.base_text.specs.Text.{Puts, after_blank, or_refused}

-- R91: none needed, the semaphore and the value of a wait, or none that would help
unfoldable pub advice_words : Advice → List ℕ
advice_words NoneNeeded = ascii "wait none-needed"
advice_words (Wait s v) = ascii "wait" ++ after_blank s ++ after_blank v
advice_words NoneWouldHelp = ascii "wait none-would-help"

unfoldable pub advice_text : Advice → List ℕ
advice_text a = advice_words a ++ ascii "\n"

-- the text of the question for a wait
pub record SuggestPrinted (bytes : List ℕ) (queue buffer : ℕ) (room room_now : List ℕ) (end : ℕ) : Type 0 where
  pub suggested : Suggested
  pub table : List ℕ
  pub list : List ℕ
  pub right :
      SuggestRight bytes queue buffer (told suggested) suggested.advice (replicate table_numbers 0) table
      (replicate list_numbers 0) list
  pub text :
      Puts (or_refused suggested.number suggested.place (advice_text suggested.advice)) room 0 room_now end
