-- Grammars of stored numbers: what a field is, how a list of fields is read and judged, and how it is spelled in bytes.
-- One grammar serves the reader, over bytes, and the writer, over numbers. Assumes nothing: these are definitions.
use Rattle.std.specs.Prelude.{Bool, true, ◌||◌, cond, List, [], ◌∷◌, ◌++◌, ℕ, zero, suc, ◌+◌, ◌*◌, ◌-◌, ◌/◌, ◌%◌, ◌^◌}
use Rattle.std.specs.Prelude.{ltb, eqb, length, get_or, take, drop}
use Rattle.plan_format.specs.Refusal.{Refusal, refusal, given}

-- what is asked of a field's number, given the numbers read before it: 0, or the number of the refusal
abbrev pub Check : Type 0
Check = (got : List ℕ) → (v : ℕ) → ℕ

-- a field of some bytes; one thing after another; a count and then so many of a thing; nothing
pub data Grammar : Type 0 where
  field : (width : ℕ) → Check → Grammar
  seq : Grammar → Grammar → Grammar
  counted : (least most width : ℕ) → Grammar → Grammar
  nothing : Grammar

-- R3, numbers: the lowest byte first
unfoldable pub value : List ℕ → ℕ
value [] = 0
value (b ∷ bs) = b + 256 * value bs

unfoldable pub digits : (width v : ℕ) → List ℕ
digits zero v = []
digits (suc w) v = v % 256 ∷ digits w (v / 256)

-- what fields are read from: how many places a field takes, the number in front, whether it fits the field's bytes, and
-- how many places a lead byte takes
pub record Source : Type 0 where
  pub wide : (width : ℕ) → ℕ
  pub front : (width : ℕ) → List ℕ → ℕ
  pub fits : (width v : ℕ) → Bool
  pub leads : ℕ

-- R10, the reader: stored bytes
unfoldable pub bytes : Source
bytes = record { wide = λ w. w; front = λ w xs. value (take w xs); fits = λ w v. true; leads = 1 }

-- R9 and R10, the writer: the list with a number for each field; R11: such a number may be too wide
unfoldable pub numbers : Source
numbers = record { wide = λ w. 1; front = λ w xs. get_or xs 0 0; fits = λ w v. ltb v (256 ^ w); leads = 0 }

-- a reading on its way: what is left, the place, the numbers got, the first fault
pub record Scan : Type 0 where
  pub rest : List ℕ
  pub place : ℕ
  pub got : List ℕ
  pub fault : Refusal

unfoldable pub scan : (rest : List ℕ) → (place : ℕ) → (got : List ℕ) → Refusal → Scan
scan r p g f = record { rest = r; place = p; got = g; fault = f }

unfoldable pub refused : (number : ℕ) → Scan → Scan
refused n s = scan s.rest s.place s.got (refusal n s.place)

-- R53, reading order, of one field: 1 if it is cut short, else what its check says, else 4 if it is too wide (R11)
unfoldable pub field_number : Source → (width : ℕ) → (check : ℕ → ℕ) → (rest : List ℕ) → ℕ
field_number S w c r =
    let v = S.front w r in
    cond (ltb (length r) (S.wide w)) 1 (cond (eqb (c v) 0) (cond (S.fits w v) 0 4) (c v))

unfoldable pub read_field : Source → (width : ℕ) → (check : ℕ → ℕ) → Scan → Scan
read_field S w c s =
    let n = field_number S w c s.rest in
    let v = S.front w s.rest in
    cond (given s.fault) s
    (cond (eqb n 0)
    (scan (drop (S.wide w) s.rest) (s.place + S.wide w) (s.got ++ (v ∷ [])) s.fault) (refused n s))

unfoldable pub last_got : Scan → ℕ
last_got s = get_or s.got (length s.got - 1) 0

unfoldable pub times {ℓ} : {A : Type ℓ} → (k : ℕ) → (A → A) → A → A
times zero f s = s
times (suc k) f s = times k f (f s)

-- R39, refusal 2: a count is within its limits
unfoldable pub count_check : (least most v : ℕ) → ℕ
count_check l m v = cond (ltb v l || ltb m v) 2 0

-- R53: nothing is read after a fault, so that the first one decides
unfoldable pub read_by : Source → Grammar → Scan → Scan
read_by S (field w c) s = read_field S w (λ v. c s.got v) s
read_by S (seq g h) s = read_by S h (read_by S g s)
read_by S (counted l m w g) s =
    let t = read_field S w (λ v. count_check l m v) s in
    cond (given t.fault) t (times (last_got t) (λ u. read_by S g u) t)
read_by S nothing s = s

-- R40, refusal 3: the input goes on after the last operation
unfoldable pub ended : Scan → Scan
ended s = cond (given s.fault || eqb (length s.rest) 0) s (refused 3 s)

-- a spelling on its way: the numbers left, the bytes made
pub record Spelling : Type 0 where
  pub left : List ℕ
  pub made : List ℕ

unfoldable pub spell_field : (width : ℕ) → Spelling → Spelling
spell_field w s = record { left = drop 1 s.left; made = s.made ++ digits w (get_or s.left 0 0) }

-- the bytes of a list of numbers, field by field
unfoldable pub spell_by : Grammar → Spelling → Spelling
spell_by (field w c) s = spell_field w s
spell_by (seq g h) s = spell_by h (spell_by g s)
spell_by (counted l m w g) s = times (get_or s.left 0 0) (λ u. spell_by g u) (spell_field w s)
spell_by nothing s = s

-- R7, greatest sizes: the most bytes, and the most numbers, that a grammar takes
unfoldable pub most_bytes : Grammar → ℕ
most_bytes (field w c) = w
most_bytes (seq g h) = most_bytes g + most_bytes h
most_bytes (counted l m w g) = w + m * most_bytes g
most_bytes nothing = 0

unfoldable pub most_numbers : Grammar → ℕ
most_numbers (field w c) = 1
most_numbers (seq g h) = most_numbers g + most_numbers h
most_numbers (counted l m w g) = 1 + m * most_numbers g
most_numbers nothing = 0
