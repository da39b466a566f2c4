-- What the refusals of stored plans say, by quantifiers. The laws *-means of proofs/ show each the same as its
-- definition. Assumes nothing: these are definitions.
use Rattle.std.specs.Prelude.{◌≡◌, true, false, ◌⊎◌, ◌↔◌, List, [], ◌∷◌, ◌++◌, ℕ, zero, suc, ◌+◌, ◌*◌, ◌≤◌, ◌<◌}
use Rattle.std.specs.Prelude.{length, get_or, take, drop}
use Rattle.plan_format.specs.Refusal.{Refusal, refusal, none_given}
use Rattle.plan_format.specs.RefusalNumbers.{NoneOr, reading_numbers, rule_numbers, plan_gives, reader_gives}
use Rattle.plan_format.specs.RefusalNumbers.{writer_gives}
use Rattle.plan_format.specs.Grammar.{Grammar, field, seq, counted, nothing, Source, bytes, numbers, Scan, scan}
use Rattle.plan_format.specs.Grammar.{count_check}
use Rattle.plan_format.specs.Sizes.{least_wait, least_signal}
use Rattle.plan_format.specs.Form.{Form, form_in, list_form, plan_grammar, any_number, at_least, new_axis}
use Rattle.plan_format.specs.Form.{a_queue, a_semaphore, a_buffer, a_kind, queue_count, semaphore_count}
use Rattle.plan_format.specs.Form.{buffer_count}
use Rattle.plan_format.specs.Plan.{Point, Plan, op, plan_of}
use Rattle.plan_format.specs.Limits.{Within, numbers_of, bytes_of}
use Rattle.plan_format.specs.Stored.{scanned, listed, plan_in, spelled}
use Rattle.plan_format.specs.Promise.{ReadsPlans, WritesPlans, GreatestSizes}
use Rattle.plan_format.specs.AsBefore.{ReadsAsBefore, WritesAsBefore}
use Rattle.plan_format.specs.declared.Told.{Told}

-- the number and the place of a refusal
abbrev pub Refuses : Refusal → (number place : ℕ) → Type 0
Refuses f n i = (f.number ≡ n) × (f.place ≡ i)

-- ---- room
-- R12, room: 9 with the length as its place, exactly if the room is shorter
pub record RoomForMeans (needed room : ℕ) (f : Refusal) : Type 0 where
  pub short : room < needed → Refuses f 9 needed
  pub enough : needed ≤ room → Refuses f 0 0

-- R12, of reader and writer: room is judged only where nothing else is refused
pub record RoomAfter (numbers : List ℕ) (fault : Refusal) (needed room : ℕ) (f : Refusal) : Type 0 where
  pub fault_first : (fault.number ≡ 0 → ⊥) → f ≡ fault
  pub then_room : fault.number ≡ 0 → RoomForMeans needed room f
  pub nine : (f.number ≡ 9) → (fault.number ≡ 0) × (room < needed)
  -- R10: neither looks at 7 and 8
  pub only : NoneOr numbers f.number

-- ---- 2, 4, 5 and 16: a field's number is n exactly if what is said of it holds, else 0
pub record GivenWhen (answer n : ℕ) (P : Type 0) : Type 0 where
  pub yes : P → answer ≡ n
  pub otherwise : (P → ⊥) → answer ≡ 0

-- R42, refusal 5: the axis equals one of the numbers read after the count
abbrev pub EarlierAxis : (got : List ℕ) → (v : ℕ) → Type 0
EarlierAxis g v = (k : ℕ) × (1 ≤ k) × (k < length g) × (get_or g k 0 ≡ v)

-- R39, R41, R42, R18: which fields give 2, 4, 5 and 16, and when
pub record ChecksMean (got : List ℕ) (v : ℕ) : Type 0 where
  pub count : (least most : ℕ) → GivenWhen (count_check least most v) 2 ((v < least) ⊎ (most < v))
  pub queue : GivenWhen (a_queue got v) 4 (queue_count got ≤ v)
  pub semaphore : GivenWhen (a_semaphore got v) 4 (semaphore_count got ≤ v)
  pub buffer : GivenWhen (a_buffer got v) 4 (buffer_count got ≤ v)
  pub kind : GivenWhen (a_kind got v) 4 (1 < v)
  pub axis : GivenWhen (new_axis got v) 5 (EarlierAxis got v)
  pub wait_value : GivenWhen (at_least least_wait got v) 16 (v ≡ 0)
  pub signal_value : at_least least_signal got v ≡ 0
  pub any : any_number got v ≡ 0

-- how many fields a grammar has, counts aside
abbrev pub fields_in : Grammar → ℕ
fields_in (field w c) = 1
fields_in (seq g h) = fields_in g + fields_in h
fields_in (counted l m w g) = fields_in g
fields_in nothing = 0

-- what the check of each field answers, counts aside: 0 or the number that is listed for it
abbrev pub FieldsAnswer : (numbers : List ℕ) → Grammar → Type 0
FieldsAnswer ns (field w c) = (got : List ℕ) (v : ℕ) → (c got v ≡ 0) ⊎ (c got v ≡ get_or ns 0 0)
FieldsAnswer ns (seq g h) = FieldsAnswer ns g × FieldsAnswer (drop (fields_in g) ns) h
FieldsAnswer ns (counted l m w g) = FieldsAnswer ns g
FieldsAnswer ns nothing = Unit {0}

-- which fields give which number, 0 for none: axis, owner, size; an operation's queue; semaphore and value of a wait,
-- and of a signal; buffer and kind of a mark. 2 is for counts alone
abbrev pub field_numbers : List ℕ
field_numbers = 5 ∷ 4 ∷ 0 ∷ 4 ∷ 4 ∷ 16 ∷ 4 ∷ 0 ∷ 4 ∷ 4 ∷ []

abbrev pub SectionsAnswer : Form → Type 0
SectionsAnswer F = FieldsAnswer field_numbers (plan_grammar F)

-- R53, reading order, of one field: 1 if it is cut short, else what its check says, else 4 if it is too wide (R11)
pub record FieldMeans (S : Source) (width : ℕ) (check : ℕ → ℕ) (rest : List ℕ) (n : ℕ) : Type 0 where
  pub cut_short : length rest < S.wide width → n ≡ 1
  pub judged : S.wide width ≤ length rest → (check (S.front width rest) ≡ 0 → ⊥) → n ≡ check (S.front width rest)
  pub too_wide : S.wide width ≤ length rest → check (S.front width rest) ≡ 0 →
      S.fits width (S.front width rest) ≡ false → n ≡ 4
  pub passed : S.wide width ≤ length rest → check (S.front width rest) ≡ 0 →
      S.fits width (S.front width rest) ≡ true → n ≡ 0

-- ---- 1 to 5 and 16 of a whole reading: the first fault in reading order
-- a reading on its way, without a fault: what is left, the place, the numbers got
pub record Cursor : Type 0 where
  pub rest : List ℕ
  pub place : ℕ
  pub got : List ℕ

-- a field is taken: it is not cut short, is judged 0, and its bytes can hold it
pub record TakesField (S : Source) (width : ℕ) (check : ℕ → ℕ) (a b : Cursor) : Type 0 where
  pub long : S.wide width ≤ length a.rest
  pub passes : check (S.front width a.rest) ≡ 0
  pub fits : S.fits width (S.front width a.rest) ≡ true
  pub next : b ≡ record {
    rest = drop (S.wide width) a.rest;
    place = a.place + S.wide width;
    got = a.got ++ (S.front width a.rest ∷ []);
  }

-- a reading stops at a field, with the field's number
pub record StopsField (S : Source) (width : ℕ) (check : ℕ → ℕ) (a b : Cursor) (n : ℕ) : Type 0 where
  pub here : b ≡ a
  pub given : n ≡ 0 → ⊥
  pub why : FieldMeans S width check a.rest n

abbrev pub Repeated : (R : Cursor → Cursor → Type 0) → (k : ℕ) → (a b : Cursor) → Type 0
Repeated R zero a b = b ≡ a
Repeated R (suc k) a b = (c : Cursor) × R a c × Repeated R k c b

-- every field of a grammar is taken, one after another; a count is followed by so many entries
abbrev pub Reads : Source → Grammar → (a b : Cursor) → Type 0
Reads S (field w c) a b = TakesField S w (λ v. c a.got v) a b
Reads S (seq g h) a b = (c : Cursor) × Reads S g a c × Reads S h c b
Reads S (counted l m w g) a b =
    (c : Cursor) × TakesField S w (λ v. count_check l m v) a c ×
    Repeated (λ x y. Reads S g x y) (S.front w a.rest) c b
Reads S nothing a b = b ≡ a

-- a reading takes what comes before some field of a grammar and stops there
abbrev pub Stops : Source → Grammar → (a b : Cursor) → (n : ℕ) → Type 0
Stops S (field w c) a b n = StopsField S w (λ v. c a.got v) a b n
Stops S (seq g h) a b n = Stops S g a b n ⊎ ((c : Cursor) × Reads S g a c × Stops S h c b n)
Stops S (counted l m w g) a b n =
    StopsField S w (λ v. count_check l m v) a b n ⊎
    ((c d : Cursor) × (j : ℕ) × TakesField S w (λ v. count_check l m v) a c × (j < S.front w a.rest) ×
    Repeated (λ x y. Reads S g x y) j c d ×
    Stops S g d b n)
Stops S nothing a b n = ⊥

-- a reading at its start: from after the lead byte on
abbrev pub start : Source → Form → List ℕ → Cursor
start S F xs = let k = S.leads * length F.lead in record { rest = drop k xs; place = k; got = [] }

-- R53, R40: the refusal is that of the first field at which the reading stops, or 3 where input is left over; and which
-- fields give which numbers, and when
pub record ReadingMeans (S : Source) (F : Form) (xs : List ℕ) (s : Scan) : Type 0 where
  pub fault :
      (n i : ℕ) → (n ≡ 0 → ⊥) → Refuses s.fault n i ↔ ((b : Cursor) × (b.place ≡ i) ×
      (Stops S (plan_grammar F) (start S F xs) b n ⊎
      ((n ≡ 3) × Reads S (plan_grammar F) (start S F xs) b × (0 < length b.rest))))
  pub none : Refuses s.fault 0 0 ↔
      ((b : Cursor) × Reads S (plan_grammar F) (start S F xs) b × (length b.rest ≡ 0) × (s.got ≡ b.got))
  pub only : NoneOr reading_numbers s.fault.number
  pub inside : s.fault.place ≤ length xs
  pub fields : SectionsAnswer F
  pub checks : (got : List ℕ) (v : ℕ) → ChecksMean got v

-- what 1 to 5 and 16 mean of bytes, and of a list of numbers
abbrev pub BytesMean : List ℕ → Type 0
BytesMean bs = ReadingMeans bytes (form_in bs) bs (scanned bs)

abbrev pub NumbersMean : List ℕ → Type 0
NumbersMean xs = ReadingMeans numbers list_form xs (listed xs)

-- ---- 7 and 8
abbrev pub signal_at : Plan → (i k : ℕ) → Point
signal_at p i k = get_or (op p i).signals k (record { semaphore = 0; value = 0 })

abbrev pub wait_at : Plan → (i k : ℕ) → Point
wait_at p i k = get_or (op p i).waits k (record { semaphore = 0; value = 0 })

-- operation i has a signal at place k of its list
abbrev pub IsSignal : Plan → (i k : ℕ) → Type 0
IsSignal p i k = k < length (op p i).signals

-- R54: operation by operation, signal by signal
abbrev pub Earlier : (j l i k : ℕ) → Type 0
Earlier j l i k = (j < i) ⊎ ((j ≡ i) × (l < k))

-- R16, signals rise: above 0, and above the earlier signals of the semaphore
pub record Rising (p : Plan) (i k : ℕ) : Type 0 where
  pub above_zero : 0 < (signal_at p i k).value
  pub above_earlier :
      (j l : ℕ) → IsSignal p j l → Earlier j l i k → (signal_at p j l).semaphore ≡ (signal_at p i k).semaphore →
      (signal_at p j l).value < (signal_at p i k).value

-- every earlier signal rises
abbrev pub GoodBefore : Plan → (i k : ℕ) → Type 0
GoodBefore p i k = (j l : ℕ) → IsSignal p j l → Earlier j l i k → Rising p j l

-- R44, refusal 7: the first signal that does not rise, on whichever queue (R15)
pub record NotRising (p : Plan) (i k : ℕ) : Type 0 where
  pub signal : IsSignal p i k
  pub not_rising : Rising p i k → ⊥
  pub first : GoodBefore p i k

-- every signal rises
abbrev pub SignalsGood : Plan → Type 0
SignalsGood p = (j l : ℕ) → IsSignal p j l → Rising p j l

-- R45, refusal 8: a wait for a value that no signal reaches
pub record TooHigh (p : Plan) (i k : ℕ) : Type 0 where
  pub wait : k < length (op p i).waits
  pub above_all : (j l : ℕ) → IsSignal p j l → (signal_at p j l).semaphore ≡ (wait_at p i k).semaphore →
      (signal_at p j l).value < (wait_at p i k).value

-- R54: 8 only where no signal is refused, at the lowest such operation
pub record UnmetWait (p : Plan) (i : ℕ) : Type 0 where
  pub signals_good : SignalsGood p
  pub too_high : (k : ℕ) × TooHigh p i k
  pub lowest : (j l : ℕ) → j < i → TooHigh p j l → ⊥

-- refusals 7 and 8, and none; R43: 6 is not among the numbers
pub record RulesMean (p : Plan) (f : Refusal) : Type 0 where
  pub seven : (i : ℕ) → (Refuses f 7 i) ↔ ((k : ℕ) × NotRising p i k)
  pub eight : (i : ℕ) → (Refuses f 8 i) ↔ UnmetWait p i
  pub none : (Refuses f 0 0) ↔ (SignalsGood p × ((i k : ℕ) → TooHigh p i k → ⊥))
  pub only : NoneOr rule_numbers f.number

-- R53, R54: the reading first, by what its numbers mean, then signals and waits
pub record PlanRefusalMeans (bytes : List ℕ) (f : Refusal) : Type 0 where
  pub reading : BytesMean bytes
  pub reading_first : ((scanned bytes).fault.number ≡ 0 → ⊥) → f ≡ (scanned bytes).fault
  pub then_rules : (scanned bytes).fault.number ≡ 0 → RulesMean (plan_in bytes) f
  pub only : NoneOr plan_gives f.number

-- ---- what is handed back by reader and writer
-- R13, handed back: the length, with the result at the front of the room and the rest as it was; or the room as it was
pub record Filled (new : List ℕ) (r : Told) (room room_now : List ℕ) : Type 0 where
  pub refused : (r.number ≡ 0 → ⊥) → room_now ≡ room
  pub length_told : r.number ≡ 0 → r.answer ≡ length new
  pub place_told : r.number ≡ 0 → r.place ≡ 0
  pub long : r.number ≡ 0 → length room_now ≡ length room
  pub holds : r.number ≡ 0 → (k : ℕ) → k < length new → get_or room_now k 0 ≡ get_or new k 0
  pub past : r.number ≡ 0 → (k : ℕ) → length new ≤ k → get_or room_now k 0 ≡ get_or room k 0

-- the refusal that was told
abbrev pub refusal_of : Told → Refusal
refusal_of r = refusal r.number r.place

-- R8, R13, what was read: the numbers of a plan within the limits, which the writer takes, and from which it writes the
-- very bytes; or why not
pub record ReadMeans (bytes : List ℕ) (r : Told) (room room_now : List ℕ) : Type 0 where
  pub reading : BytesMean bytes
  pub refuses : RoomAfter reader_gives (scanned bytes).fault (length (scanned bytes).got) (length room)
      (refusal_of r)
  pub filled : Filled (scanned bytes).got r room room_now
  pub within : r.number ≡ 0 → Within (plan_in bytes)
  pub numbers : r.number ≡ 0 → take r.answer room_now ≡ numbers_of (plan_in bytes)
  pub taken : r.number ≡ 0 → (listed (take r.answer room_now)).fault ≡ none_given
  pub written_back : r.number ≡ 0 → spelled (take r.answer room_now) ≡ bytes
  pub plans : ReadsPlans bytes
  pub sizes : GreatestSizes
  pub as_before : ReadsAsBefore bytes

-- R8, R13, what was written: the bytes of a plan within the limits, from which the reader reads the very numbers, to
-- the end; or why not
pub record WriteMeans (numbers : List ℕ) (r : Told) (room room_now : List ℕ) : Type 0 where
  pub reading : NumbersMean numbers
  pub refuses : RoomAfter writer_gives (listed numbers).fault (length (spelled numbers)) (length room) (refusal_of r)
  pub filled : Filled (spelled numbers) r room room_now
  pub within : r.number ≡ 0 → Within (plan_of numbers)
  pub bytes : r.number ≡ 0 → take r.answer room_now ≡ bytes_of (plan_of numbers)
  pub read_back : r.number ≡ 0 → scanned (take r.answer room_now) ≡ scan [] r.answer numbers none_given
  pub plans : WritesPlans numbers
  pub sizes : GreatestSizes
  pub as_before : WritesAsBefore numbers
