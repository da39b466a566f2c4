-- A grammar reads no further than its greatest size: a plan's first bytes decide what is read and its refusals.
-- Assumes nothing.
use mathlib.Core.Path.{◌≡◌, refl, sym, ap, ◌∙◌, subst}
use mathlib.Core.Bool.{false, cond}
use mathlib.Core.List.{List, [], ◌++◌}
use Prim.Native.Nat.{ℕ, zero, suc, ◌+◌, ◌*◌, ◌-◌, ◌≤◌, ◌<◌}
use native.Mathlib.Nat.{suc-mul, mul-le-mul_right}
use native.Mathlib.Omega.{arith}
use lib.Dec.{leb, eqb}
use lib.ListN.{length, get_or, take, drop, length-append, length-drop, take-append-drop, get_or-append}
use lib.Seq.{take-append-le, drop-append-le, length-take-le, take_all}
use borrow.Author.Tests.{le-ltb, ltb-false, leb-true, leb-false, ne_eqb, eqb-false}
use Rattle.base_lists.proofs.Tests.{by_cases}
use Rattle.plan_format.specs.Sizes.{plan_bytes, plan_numbers, second_lead, most_input}
use Rattle.plan_format.specs.Refusal.{Refusal, none_given, given}
use Rattle.plan_format.specs.Grammar.{Check, Grammar, field, seq, counted, nothing, Source, bytes, numbers, Scan}
use Rattle.plan_format.specs.Grammar.{scan, refused, field_number, read_field, last_got, times, count_check}
use Rattle.plan_format.specs.Grammar.{read_by, ended, value, most_bytes}
use Rattle.plan_format.specs.Form.{Form, list_form, is_second, form_in, plan_grammar, scanned_by}
use Rattle.plan_format.specs.Plan.{plan_of}
use Rattle.plan_format.specs.Stored.{scanned, listed, plan_in, too_long, plan_refusal}
use Rattle.plan_format.proofs.Judged.{not_given_zero}
use Rattle.plan_format.proofs.Fields.{field_done, count_limits}
use Rattle.plan_format.proofs.Reading.{last_is}
use Rattle.plan_format.proofs.Forms.{form_front, first_told}
use Rattle.plan_format.proofs.Sizes.{Most, bytes_most, numbers_most, first_sized, sized_in, longest_list}
use Rattle.plan_format.proofs.Sizes.{listed_sizes}

-- two readings with the same fault and the same numbers
pub record ReadsAlike (s t : Scan) : Type 0 where
  pub fault : s.fault ≡ t.fault
  pub got : s.got ≡ t.got

-- a reading with more after what is left
unfoldable pub longer : List ℕ → Scan → Scan
longer b s = scan (s.rest ++ b) s.place s.got s.fault

-- a step that takes n places at most, and looks no further
pub record ReadsAtMost (n : ℕ) (f : Scan → Scan) : Type 0 where
  pub left : (s : Scan) → length s.rest ≤ length (f s).rest + n
  pub same : (b : List ℕ) (s : Scan) → n ≤ length s.rest → f (longer b s) ≡ longer b (f s)

within_none : ReadsAtMost 0 (λ s. s)
within_none = record { left = λ s. omega arith; same = λ b s l. refl }

within_then : (n m : ℕ) (f g : Scan → Scan) → ReadsAtMost n f → ReadsAtMost m g →
    ReadsAtMost (n + m) (λ s. g (f s))
within_then n m f g F G = record {
  left = λ s. omega (arith, F.left s, G.left (f s));
  same = λ b s l. ap g (F.same b s (omega arith)) ∙ G.same b (f s) (omega (arith, F.left s));
}

within_times : (n : ℕ) (f : Scan → Scan) → ReadsAtMost n f → (k : ℕ) → ReadsAtMost (k * n) (λ s. times k f s)
unfolding times
within_times n f F zero = subst (λ z. ReadsAtMost z (λ s. s)) (let e : 0 ≡ 0 * n = omega arith in e) within_none
within_times n f F (suc k) =
    subst (λ z. ReadsAtMost z (λ s. times k f (f s)))
    (let e : n + k * n ≡ suc k * n = omega (arith, suc-mul k n) in e)
    (within_then n (k * n) f (λ s. times k f s) F (within_times n f F k))

-- ---- as many steps as the number just got says
times_last : (Scan → Scan) → Scan → Scan
times_last f t = cond (given t.fault) t (times (last_got t) f t)

last_same : (k : ℕ) (f : Scan → Scan) → ReadsAtMost k f → (b : List ℕ) (t : Scan) →
    (t.fault.number ≡ 0 → last_got t * k ≤ length t.rest) →
    times_last f (longer b t) ≡ longer b (times_last f t)
unfolding times_last longer scan last_got
last_same k f F b t h =
    by_cases (given t.fault) (λ y. rw y)
    (λ n. rw n ((within_times k f F (last_got t)).same b t (h (not_given_zero t.fault n))))

within_counted : (n m k : ℕ) (h f : Scan → Scan) → ReadsAtMost n h → ReadsAtMost k f →
    ((s : Scan) → (h s).fault.number ≡ 0 → last_got (h s) ≤ m) →
    ReadsAtMost (n + m * k) (λ s. times_last f (h s))
unfolding times_last
within_counted n m k h f H F limit = record {
  left = λ s. by_cases (given (h s).fault) (λ y. rw y (omega (arith, H.left s))) (λ z. rw z (omega (
    arith,
    H.left s,
    (within_times k f F (last_got (h s))).left (h s),
    mul-le-mul_right k (limit s (not_given_zero (h s).fault z)),
  )));
  same = λ b s l. ap (λ z. times_last f z) (H.same b s (omega arith))
      ∙ last_same k f F b (h s) (λ e. omega (arith, H.left s, mul-le-mul_right k (limit s e)));
}

-- ---- a source whose fields are told by the places they take
abbrev pub Fronted : Source → Type 0
Fronted S = (w : ℕ) (a b : List ℕ) → S.wide w ≤ length a → S.front w (a ++ b) ≡ S.front w a

module _ (S : Source) (front_is : Fronted S) (T : Most S.wide) where
  field_left : (w : ℕ) (c : ℕ → ℕ) (s : Scan) → length s.rest ≤ length (read_field S w c s).rest + S.wide w
  unfolding read_field refused scan
  field_left w c s =
      by_cases (given s.fault) (λ t. rw t (omega arith)) (λ f.
      by_cases (eqb (field_number S w c s.rest) 0) (λ t. rw (f, t, length-drop (S.wide w) s.rest) (omega arith))
      (λ g. rw (f, g) (omega arith)))

  number_same : (w : ℕ) (c : ℕ → ℕ) (a b : List ℕ) → S.wide w ≤ length a →
      field_number S w c (a ++ b) ≡ field_number S w c a
  unfolding field_number
  number_same w c a b l = rw (
    le-ltb (length (a ++ b)) (S.wide w) (rw length-append (omega arith)),
    le-ltb (length a) (S.wide w) l,
    front_is w a b l,
  )

  field_same : (w : ℕ) (c : ℕ → ℕ) (b : List ℕ) (s : Scan) → S.wide w ≤ length s.rest →
      read_field S w c (longer b s) ≡ longer b (read_field S w c s)
  unfolding read_field refused scan longer
  field_same w c b s l =
      let n = number_same w c s.rest b l in
      by_cases (given s.fault) (λ t. rw t) (λ f.
      by_cases (eqb (field_number S w c s.rest) 0)
      (λ t. rw (f, n, t, front_is w s.rest b l, drop-append-le (S.wide w) s.rest b))
      (λ g. rw (f, n, g)))

  within_field : (w : ℕ) (c : Check) → ReadsAtMost (S.wide w) (λ s. read_field S w (λ v. c s.got v) s)
  unfolding longer scan
  within_field w c =
      record { left = λ s. field_left w (λ v. c s.got v) s; same = λ b s l. field_same w (λ v. c s.got v) b s l }

  -- a count read without a fault is within its limit
  last_most : (l m w : ℕ) (s : Scan) → (read_field S w (λ v. count_check l m v) s).fault.number ≡ 0 →
      last_got (read_field S w (λ v. count_check l m v) s) ≤ m
  last_most l m w s e =
      let d = field_done S w (λ v. count_check l m v) s e in
      let v = S.front w s.rest in
      omega (
        arith,
        ap last_got d.result ∙ last_is (drop (S.wide w) s.rest) s.got (s.place + S.wide w) v s.fault,
        (count_limits l m v d.passes).1,
      )

  pub within : (g : Grammar) → ReadsAtMost (T.most g) (λ s. read_by S g s)
  unfolding read_by times_last
  within (field w c) = rw (T.field_is w c) (within_field w c)
  within (seq g h) = rw (T.seq_is g h)
      (within_then (T.most g) (T.most h) (λ s. read_by S g s) (λ s. read_by S h s) (within g) (within h))
  within (counted l m w g) =
      rw (T.counted_is l m w g)
      (within_counted (S.wide w) m (T.most g) (λ s. read_field S w (λ v. count_check l m v) s) (λ s. read_by S g s)
      (within_field w (λ _ v. count_check l m v)) (within g) (last_most l m w))
  within nothing = rw T.nothing_is within_none

  -- ---- a whole plan
  ended_fault : (b : List ℕ) (s : Scan) → 0 < length s.rest → (ended (longer b s)).fault ≡ (ended s).fault
  unfolding ended refused longer scan
  ended_fault b s l =
      by_cases (given s.fault) (λ t. rw t)
      (λ f. rw (
        f,
        ne_eqb (length (s.rest ++ b)) 0 (λ e. omega (arith, length-append s.rest b)),
        ne_eqb (length s.rest) 0 (λ e. omega arith),
      ))

  ended_got : (b : List ℕ) (s : Scan) → (ended (longer b s)).got ≡ (ended s).got
  unfolding ended refused longer scan
  ended_got b s =
      by_cases (given s.fault) (λ t. rw t)
      (λ f. by_cases (eqb (length (s.rest ++ b)) 0)
      (λ t. by_cases (eqb (length s.rest) 0) (λ u. rw (f, t, u)) (λ u. rw (f, t, u)))
      (λ t. by_cases (eqb (length s.rest) 0) (λ u. rw (f, t, u)) (λ u. rw (f, t, u))))

  pub prefix_decides : (F : Form) (n : ℕ) (xs : List ℕ) → S.leads * length F.lead + T.most (plan_grammar F) < n →
      ReadsAlike (scanned_by S F xs) (scanned_by S F (take n xs))
  unfolding scanned_by longer scan
  prefix_decides F n xs h =
      by_cases (leb (length xs) n)
      (λ t. let e = sym (take_all n xs (leb-true (length xs) n t)) in record {
        fault = ap (λ z. (scanned_by S F z).fault) e;
        got = ap (λ z. (scanned_by S F z).got) e;
      })
      (λ f. let k = S.leads * length F.lead in
      let a = take n xs in
      let b = drop n xs in
      let long : length a ≡ n = length-take-le n xs (omega (arith, leb-false (length xs) n f)) in
      let s = scan (drop k a) k [] none_given in
      let W = within (plan_grammar F) in
      let rest : length (drop k a) ≡ length a - k = length-drop k a in
      let e : scanned_by S F xs ≡ ended (longer b (read_by S (plan_grammar F) s)) =
      ap (λ z. scanned_by S F z) (sym (take-append-drop n xs))
      ∙ ap (λ z. ended (read_by S (plan_grammar F) (scan z k [] none_given))) (drop-append-le k a b (omega arith))
      ∙ ap ended (W.same b s (omega arith)) in
      record {
        fault = ap (λ (z : Scan). z.fault) e ∙ ended_fault b (read_by S (plan_grammar F) s) (omega (arith, W.left s));
        got = ap (λ (z : Scan). z.got) e ∙ ended_got b (read_by S (plan_grammar F) s);
      })

-- ---- one byte, or one number, past the greatest size
bytes_decide : (n : ℕ) (bs : List ℕ) → length (form_in bs).lead + most_bytes (plan_grammar (form_in bs)) < n →
    ReadsAlike (scanned bs) (scanned (take n bs))
unfolding scanned bytes bytes_most
bytes_decide n bs l =
    subst (λ (F : Form). ReadsAlike (scanned_by bytes (form_in bs) bs) (scanned_by bytes F (take n bs)))
    (sym (form_front n bs (omega arith)))
    (prefix_decides bytes (λ w a b h. ap value (take-append-le w a b h)) bytes_most (form_in bs) n bs (omega arith))

pub first_bytes_decide : (bs : List ℕ) → ReadsAlike (scanned bs) (scanned (take (plan_bytes + 1) bs))
first_bytes_decide bs = bytes_decide (plan_bytes + 1) bs (omega (arith, (sized_in bs).bytes_within))

pub first_numbers_decide : (xs : List ℕ) → ReadsAlike (listed xs) (listed (take (plan_numbers + 1) xs))
unfolding listed numbers numbers_most
first_numbers_decide xs =
    prefix_decides numbers (λ w a b l. get_or-append a b 0 0 l) numbers_most list_form (plan_numbers + 1) xs
    (omega (arith, longest_list))

-- an input that is not too long is decided by one byte more than the program judges
pub judged_bytes_decide : (bs : List ℕ) → too_long bs ≡ false →
    ReadsAlike (scanned bs) (scanned (take (most_input + 1) bs))
unfolding too_long is_second
judged_bytes_decide bs h =
    by_cases (is_second bs)
    (λ t. let few : length bs ≤ most_input = ltb-false most_input (length bs) (rw t at h) in
    let e = sym (take_all (most_input + 1) bs (omega arith)) in
    record { fault = ap (λ z. (scanned z).fault) e; got = ap (λ z. (scanned z).got) e })
    (λ f. bytes_decide (most_input + 1) bs
    (subst (λ (F : Form). length F.lead + most_bytes (plan_grammar F) < most_input + 1)
    (sym (first_told bs (eqb-false (get_or bs 0 0) second_lead f))) (omega (arith, first_sized.bytes_most))))

-- bytes whose first are the same are read alike
pub bytes_alike : (bs cs : List ℕ) → take (plan_bytes + 1) bs ≡ take (plan_bytes + 1) cs →
    ReadsAlike (scanned bs) (scanned cs)
bytes_alike bs cs same =
    let a = first_bytes_decide bs in
    let b = first_bytes_decide cs in
    record {
      fault = a.fault ∙ ap (λ z. (scanned z).fault) same ∙ sym b.fault;
      got = a.got ∙ ap (λ z. (scanned z).got) same ∙ sym b.got;
    }

-- bytes that are read alike are the same plan, with the same refusals 1 to 8 and 16
module _ (bs cs : List ℕ) (alike : ReadsAlike (scanned bs) (scanned cs)) where
  pub plan_alike : plan_in bs ≡ plan_in cs
  unfolding plan_in
  plan_alike = ap plan_of alike.got

  pub refusal_alike : plan_refusal bs ≡ plan_refusal cs
  unfolding plan_refusal
  refusal_alike = rw (alike.fault, plan_alike)

-- numbers whose first are the same are refused alike, and are the same where they are not
module _ (xs ys : List ℕ) (same : take (plan_numbers + 1) xs ≡ take (plan_numbers + 1) ys) where
  pub numbers_alike : ReadsAlike (listed xs) (listed ys)
  numbers_alike =
      let a = first_numbers_decide xs in
      let b = first_numbers_decide ys in
      record {
        fault = a.fault ∙ ap (λ z. (listed z).fault) same ∙ sym b.fault;
        got = a.got ∙ ap (λ z. (listed z).got) same ∙ sym b.got;
      }

  pub taken_alike : (listed xs).fault.number ≡ 0 → xs ≡ ys
  taken_alike e =
      let f : (listed ys).fault.number ≡ 0 = sym (ap (λ (r : Refusal). r.number) numbers_alike.fault) ∙ e in
      sym (take_all (plan_numbers + 1) xs (omega (arith, listed_sizes xs e))) ∙ same
      ∙ take_all (plan_numbers + 1) ys (omega (arith, listed_sizes ys f))
