-- What the program prints for each question, and inputs that begin alike. Assumes nothing: these are definitions.
use Rattle.std.specs.Prelude.{◌≡◌, true, false, List, ℕ, ◌+◌, length, take}
use Rattle.plan_format.specs.Sizes.{plan_numbers, most_input}
use Rattle.plan_format.specs.Stored.{all_bytes, too_long}
use Rattle.plan_trace.specs.Promise.{SameTrace}
use Rattle.print_trace.specs.Printed.{TracePrinted}
use Rattle.base_text.specs.Ascii.{ascii}
use Rattle.base_text.specs.Text.{Puts}
use Rattle.print_check.specs.CheckText.{CheckPrinted}
use Rattle.print_stored.specs.Texts.{read_text, write_text}
use Rattle.print_ask.specs.Questions.{ReusePrinted, FrontierPrinted}
use Rattle.print_suggest.specs.Printed.{SuggestPrinted}
use Rattle.print_input.specs.declared.Question.{Question}
use Rattle.print_input.specs.declared.Question.TheVariants.{Check, Reuse, Suggest, Frontier, Read}

-- the text of the answer to a question on a plan
unfoldable pub Answered : Question → (bytes room room_now : List ℕ) → (end : ℕ) → Type 0
Answered Check bs o x e = CheckPrinted bs o x e
Answered (Reuse q b) bs o x e = ReusePrinted bs q b o x e
Answered (Suggest q b) bs o x e = SuggestPrinted bs q b o x e
Answered (Frontier j c) bs o x e = FrontierPrinted bs j c o x e
Answered Read bs o x e = Puts (read_text bs) o 0 x e

-- R75, too long: the line that is printed in place of every answer
unfoldable pub too_long_text : List ℕ
too_long_text = ascii "too long\n"

pub record UnlessLong (bytes room room_now : List ℕ) (end : ℕ) (answer : Type 0) : Type 0 where
  pub long : too_long bytes ≡ true → Puts too_long_text room 0 room_now end
  pub judged : too_long bytes ≡ false → answer

-- R75, long input: two with the same first bytes, one more than the program judges in the second form, or with the same
-- first numbers, one more than the longest plan has
abbrev pub SameBytes : (xs ys : List ℕ) → Type 0
SameBytes xs ys = take (most_input + 1) xs ≡ take (most_input + 1) ys

abbrev pub SameNumbers : (xs ys : List ℕ) → Type 0
SameNumbers xs ys = take (plan_numbers + 1) xs ≡ take (plan_numbers + 1) ys

-- R75: the text is that of every input, whole, that begins so
abbrev pub AnsweredWhole : Question → (begun room room_now : List ℕ) → (end : ℕ) → Type 0
AnsweredWhole q begun o x e =
    (whole : List ℕ) → SameBytes whole begun → UnlessLong whole o x e (Answered q whole o x e)

abbrev pub WrittenWhole : (begun room room_now : List ℕ) → (end : ℕ) → Type 0
WrittenWhole begun o x e = (whole : List ℕ) → SameNumbers whole begun → Puts (write_text whole (length o)) o 0 x e

-- the same of a plan and a trace, each whole: the trace is a list of bytes
abbrev pub TracedWhole : (plan_begun trace_begun room room_now : List ℕ) → (end : ℕ) → Type 0
TracedWhole bs ts o x e =
    (plan trace : List ℕ) → SameBytes plan bs → all_bytes trace ≡ true → SameTrace trace ts →
    UnlessLong plan o x e (TracePrinted plan trace o x e)
