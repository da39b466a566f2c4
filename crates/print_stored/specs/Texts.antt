-- What the program prints for a read and a write, as texts. Assumes nothing: these are definitions.
use Rattle.std.specs.Prelude.{cond, List, ◌++◌, ℕ}
use Rattle.plan_format.specs.Refusal.{given}
use Rattle.plan_format.specs.Stored.{scanned, spelled, write_refusal}
use Rattle.base_text.specs.Ascii.{ascii}
use Rattle.base_text.specs.Text.{spaced, refused_text}

-- R74: the numbers of a plan on a line, or the reader's refusal
unfoldable pub read_text : (bytes : List ℕ) → List ℕ
read_text bs =
    cond (given (scanned bs).fault) (refused_text (scanned bs).fault.number (scanned bs).fault.place)
    (spaced (scanned bs).got ++ ascii "\n")

-- R74: the stored plan of a list of numbers, or the writer's refusal, in a room of so many bytes
unfoldable pub write_text : (numbers : List ℕ) → (room : ℕ) → List ℕ
write_text xs k = let f = write_refusal xs k in cond (given f) (refused_text f.number f.place) (spelled xs)
