-- Text as a list of bytes in lent room, and numbers in decimal. Assumes nothing: these are definitions.
use Rattle.std.specs.Prelude.{◌≡◌, cond, List, [], ◌∷◌, ◌++◌, ℕ, zero, suc, ◌+◌, ◌/◌, ◌%◌, min, max, ltb, eqb, length}
use Rattle.std.specs.Prelude.{set}
use Rattle.io.specs.Digits.{hex_digit_ascii}
use Rattle.base_text.specs.Ascii.{ascii}
use Rattle.base_text.specs.declared.Text.{Text}

-- a text's bytes from a place of the room on; what is past its end is left out
unfoldable pub put : (text : List ℕ) → (at : ℕ) → (room : List ℕ) → List ℕ
put [] at o = o
put (b ∷ text) at o = put text (suc at) (set o at b)

-- a text is put after the first `at` bytes of a room, which ends where the room ends
pub record Puts (text room : List ℕ) (at : ℕ) (room_now : List ℕ) (end : ℕ) : Type 0 where
  pub room_is : room_now ≡ put text at room
  pub end_is : end ≡ max at (min (at + length text) (length room))

-- the same of a room and how much of it is text; the room stays the one that was lent
pub record Adds (text : List ℕ) (old new : Text) : Type 0 where
  pub puts : Puts text old.room.now old.len new.room.now new.len
  pub same_room : new.room.ghost_name ≡ old.room.ghost_name

-- the fewest decimal digits that hold a number, the most significant first; as many as the fuel at most
unfoldable pub decimal_by : (fuel n : ℕ) → List ℕ
decimal_by zero n = []
decimal_by (suc f) n =
    cond (ltb n 10) (hex_digit_ascii n ∷ []) (decimal_by f (n / 10) ++ (hex_digit_ascii (n % 10) ∷ []))

unfoldable pub decimal : ℕ → List ℕ
decimal n = decimal_by (suc n) n

-- a number in decimal after a blank
abbrev pub after_blank : ℕ → List ℕ
after_blank n = ascii " " ++ decimal n

-- numbers in decimal, each after a blank
unfoldable pub blanked : List ℕ → List ℕ
blanked [] = []
blanked (n ∷ ns) = after_blank n ++ blanked ns

-- numbers in decimal with a blank between
unfoldable pub spaced : List ℕ → List ℕ
spaced [] = []
spaced (n ∷ ns) = decimal n ++ blanked ns

-- R73, text of a refusal: number and place on one line
unfoldable pub refused_text : (number place : ℕ) → List ℕ
refused_text n p = ascii "refused" ++ after_blank n ++ after_blank p ++ ascii "\n"

-- a refusal's line, or the text of an answer
unfoldable pub or_refused : (number place : ℕ) → (answer : List ℕ) → List ℕ
or_refused n p text = cond (eqb n 0) text (refused_text n p)
