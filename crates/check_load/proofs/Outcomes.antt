-- What a loading comes to: the reader's refusal, or the columns of the plan. Assumes nothing.
use mathlib.Core.Path.{◌≡◌, refl, sym, ap, ◌∙◌}
use mathlib.Core.Bool.{true, cond}
use mathlib.Core.List.{List, [], ◌∷◌, ◌++◌, append_assoc, append-nil}
use Prim.Native.Nat.{ℕ, suc, ◌+◌, ◌-◌, ◌*◌, ◌≤◌, ◌<◌}
use native.Mathlib.Omega.{arith}
use lib.ListN.{length, get_or, take, drop, replicate, length-append, length-take, length-replicate}
use lib.ListN.{take-append-drop, get_or-append}
use lib.Seq.{take-append_seam, drop-append_seam, take_at, get_or_at, get_or-append-add}
use Rattle.plan_format.specs.Sizes.{head_numbers, block_numbers, plan_numbers}
use Rattle.plan_format.specs.Refusal.{none_given, given}
use Rattle.plan_format.specs.Grammar.{bytes, Scan, scan, times}
use Rattle.plan_format.specs.Form.{Form}
use Rattle.plan_format.specs.Plan.{Plan, count, queues, operations_in, plan_of}
use Rattle.plan_format.specs.Sections.{operation_below}
use Rattle.plan_format.specs.Stored.{scanned, plan_in}
use Rattle.plan_format.proofs.HandedBack.{answer_long}
use Rattle.plan_format.proofs.Judged.{zero_not_given, other_given}
use Rattle.plan_format.proofs.Operations.{operations_long}
use Rattle.plan_format.proofs.Repeats.{read_repeat, repeat_stops}
use Rattle.plan_format.proofs.Seams.{after_seam}
use Rattle.plan_format.proofs.Sections.{plan_whole}
use Rattle.plan_format.proofs.Plans.{scanned_limits}
use Rattle.check_columns.specs.Columns.{Columns, HeadColumn}
use Rattle.check_columns.specs.Shown.{PlacesFor}
use Rattle.check_columns.proofs.Plans.{filling_end}
use Rattle.stored_numbers.specs.Reading.{Reached, fault_of, here, ToldHead, head_cursor, operations_after, PlanRead}
use Rattle.stored_numbers.specs.Reading.{NumbersRead, Heading, HeadRead, OperationRead}
use Rattle.stored_numbers.proofs.ReadingEnds.{ReadIn, read_refused, read_more, read_whole}
use Rattle.stored_numbers.proofs.Fields.{here_given}
use Rattle.check_load.specs.Loading.{ToldLoad, Loads}
use Rattle.check_load.proofs.Blocks.{Small}
use Rattle.check_load.proofs.Loading.{Load, read_next, goes_on, few_numbers}

-- the operations of a head, wherever their numbers go, make the plan
plan_by : {F : Form} {bs : List ℕ} {h : ToldHead} {nums : List ℕ} → HeadRead F bs h nums →
    (r : Reached) (all : List ℕ) →
    operations_after F.semaphore_width h h.operations (here bs (head_cursor h) nums) ≡ here bs r all →
    r.at ≤ length bs → r.got ≤ h.got + block_numbers * h.operations → PlanRead F bs r all
plan_by head r all e inside few =
    record { read = head.plan ∙ e; inside = inside; few = omega (arith, head.few, head.few_operations, few) }

-- a cursor after all numbers, which are in front of the most that a plan has
abbrev cursor_after : (number at : ℕ) → (all : List ℕ) → Reached
cursor_after n a all = record { number = n; at = a; got = length all }

abbrev padded : List ℕ → List ℕ
padded all = all ++ replicate (plan_numbers - length all) 0

padded_long : (all : List ℕ) → length all ≤ plan_numbers → length (padded all) ≡ plan_numbers
padded_long all l =
    length-append all (replicate (plan_numbers - length all) 0)
    ∙ omega (arith, length-replicate {A = ℕ} (plan_numbers - length all) 0)

here_after : (bs : List ℕ) (r : Reached) (all : List ℕ) →
    here bs (cursor_after r.number r.at all) (padded all) ≡ scan (drop r.at bs) r.at all (fault_of r)
unfolding here fault_of
here_after bs r all =
    ap (λ (l : List ℕ). scan (drop r.at bs) r.at l (fault_of r))
    (take-append_seam all (replicate (plan_numbers - length all) 0))

here_clean_after : (bs : List ℕ) (at : ℕ) (all : List ℕ) →
    here bs (cursor_after 0 at all) (padded all) ≡ scan (drop at bs) at all none_given
unfolding here fault_of
here_clean_after bs at all =
    ap (λ (l : List ℕ). scan (drop at bs) at l none_given)
    (take-append_seam all (replicate (plan_numbers - length all) 0))

-- after a refusal no more operations are read
operations_stop : (width : ℕ) (h : ToldHead) (s : Scan) (i n : ℕ) → given (operations_after width h i s).fault ≡ true →
    i ≤ n → operations_after width h n s ≡ operations_after width h i s
operations_stop width h s i n g l =
    let op = operation_below width h.queues h.semaphores h.buffers in
    sym (read_repeat bytes n op s)
    ∙ repeat_stops bytes op s i n (ap (λ (z : Scan). given z.fault) (read_repeat bytes i op s) ∙ g) l
    ∙ read_repeat bytes i op s

module _ {F : Form} (bs : List ℕ) (form : ReadIn F bs) (h : ToldHead) (nums : List ℕ) (cs₀ : Columns)
    (head : HeadRead F bs h nums) where
  abbrev width : ℕ
  width = F.semaphore_width

  abbrev heading : List ℕ
  heading = take h.got nums

  few_heading : length heading ≤ h.got
  few_heading = omega (arith, length-take h.got nums)

  module _ {cs : Columns} {i at signals marks : ℕ}
      (l : Load width bs h nums cs₀ cs i at signals marks) where
    -- ---- an operation that is refused
    module _ (on : i < h.operations) (w_now : List ℕ) (r : Reached)
        (o : OperationRead width h.queues h.semaphores h.buffers bs at r w_now) (z : r.number ≡ 0 → ⊥) where
      abbrev all_read : List ℕ
      all_read = (heading ++ l.blocks) ++ take r.got w_now

      abbrev stop : Reached
      stop = cursor_after r.number r.at all_read

      stopped : operations_after width h (i + 1) (here bs (head_cursor h) nums) ≡ here bs stop (padded all_read)
      stopped = read_next width bs h nums cs₀ l on w_now r o ∙ sym (here_after bs r all_read)

      few_read : length all_read ≤ h.got + block_numbers * h.operations
      few_read = omega (
        arith,
        l.few,
        few_heading,
        length-append (heading ++ l.blocks) (take r.got w_now),
        length-append heading l.blocks,
        few_numbers width h.queues h.semaphores h.buffers bs at w_now r o l.inside,
      )

      refused_plan : PlanRead F bs stop (padded all_read)
      refused_plan =
          let met = ap (λ (s : Scan). given s.fault) stopped ∙ here_given bs stop (padded all_read) z in
          plan_by head stop (padded all_read)
          (operations_stop width h (here bs (head_cursor h) nums) (i + 1) h.operations met (omega arith) ∙ stopped)
          (goes_on width h.queues h.semaphores h.buffers bs at w_now r o l.inside)
          few_read

      pub load_refused : (r.number ≡ (scanned bs).fault.number) × (r.at ≡ (scanned bs).fault.place)
      load_refused =
          let long = padded_long all_read (omega (arith, few_read, head.few, head.few_operations)) in
          let t = (read_refused form refused_plan long z).told in
          (t.number, t.place)

    -- ---- all operations
    module _ (done : h.operations ≤ i) (few : i ≤ h.operations) where
      abbrev all : List ℕ
      all = heading ++ l.blocks

      few_all : length all ≤ h.got + block_numbers * h.operations
      few_all = omega (arith, l.few, few_heading, length-append heading l.blocks)

      long : length (padded all) ≡ plan_numbers
      long = padded_long all (omega (arith, few_all, head.few, head.few_operations))

      whole_plan : PlanRead F bs (cursor_after 0 at all) (padded all)
      whole_plan =
          let e : h.operations ≡ i = omega arith in
          plan_by head (cursor_after 0 at all) (padded all)
          (ap (λ (k : ℕ). operations_after width h k (here bs (head_cursor h) nums)) e
          ∙ l.read ∙ sym (here_clean_after bs at all))
          l.inside
          few_all

      pub load_more : at < length bs → (3 ≡ (scanned bs).fault.number) × (at ≡ (scanned bs).fault.place)
      load_more u = let t = (read_more form whole_plan long refl u).told in (t.number, t.place)

      module _ (end : length bs ≤ at) (z : h.number ≡ 0) where
        numbers : NumbersRead bs (record { number = 0; place = 0; answer = length all }) (padded all)
        numbers = read_whole form whole_plan long refl end

        clean : (scanned bs).fault.number ≡ 0
        clean = sym numbers.told.number

        scanned_are : (scanned bs).got ≡ all
        scanned_are =
            sym (numbers.numbers refl)
            ∙ ap (λ (k : ℕ). take k (padded all))
            (sym (answer_long (scanned bs).fault (scanned bs).got numbers.told [] refl))
            ∙ take-append_seam all (replicate (plan_numbers - length all) 0)

        front : Heading h.queues h.semaphores h.buffers h.operations heading
        front = head.heading z

        all_are : all ≡ h.queues ∷ (front.axes ++ (h.semaphores ∷ (front.owners ++ (h.buffers ∷ (front.sizes
            ++ (h.operations ∷ l.blocks))))))
        all_are = ap (λ (x : List ℕ). x ++ l.blocks) front.numbers_are ∙ simp append_assoc

        plan_is : plan_in bs ≡ record {
          axes = front.axes;
          owners = front.owners;
          sizes = front.sizes;
          operations = operations_in h.operations l.blocks;
        }
        unfolding plan_in
        plan_is =
            ap (plan_of) (scanned_are ∙ all_are)
            ∙ plan_whole h.queues h.semaphores h.buffers h.operations front.axes front.owners
            front.sizes l.blocks front.axes_long front.owners_long front.sizes_long

        small : Small h.queues h.semaphores h.buffers
        unfolding queues
        small = record {
          few_queues = omega (
            arith,
            (scanned_limits bs clean).few_queues,
            ap (λ (p : Plan). length p.axes) plan_is,
            front.axes_long,
          );
          few_semaphores = omega (
            arith,
            (scanned_limits bs clean).few_semaphores,
            ap (λ (p : Plan). length p.owners) plan_is,
            front.owners_long,
          );
          few_buffers = omega (
            arith,
            (scanned_limits bs clean).few_buffers,
            ap (λ (p : Plan). length p.sizes) plan_is,
            front.sizes_long,
          );
        }

        operations_are : (plan_in bs).operations ≡ operations_in h.operations (drop (length heading) (all ++ []))
        operations_are =
            ap (λ (p : Plan). p.operations) plan_is
            ∙ ap (operations_in h.operations)
            (sym (ap (λ (x : List ℕ). drop (length heading) x) (append-nil all)
            ∙ drop-append_seam heading l.blocks))

        -- the numbers in front of the operations, and what comes after them
        abbrev after_owners : List ℕ
        after_owners = (h.buffers ∷ (front.sizes ++ (h.operations ∷ []))) ++ drop h.got nums

        split : nums ≡ (h.queues ∷ front.axes) ++ (h.semaphores ∷ (front.owners ++ after_owners))
        split =
            sym (take-append-drop h.got nums)
            ∙ ap (λ (x : List ℕ). x ++ drop h.got nums) front.numbers_are
            ∙ simp append_assoc

        not_refused : {n m : ℕ} → n ≡ m → n ≡ cond (given (scanned bs).fault) 0 m
        not_refused e = rw (zero_not_given (scanned bs).fault clean) e

        -- the sizes come after the counts, the axes and the owners
        abbrev before_sizes : List ℕ
        before_sizes = (h.queues ∷ front.axes) ++ (h.semaphores ∷ (front.owners ++ (h.buffers ∷ [])))

        abbrev after_sizes : List ℕ
        after_sizes = (h.operations ∷ []) ++ drop h.got nums

        split_sizes : nums ≡ before_sizes ++ (front.sizes ++ after_sizes)
        split_sizes = split ∙ simp append_assoc

        before_long : length before_sizes ≡ 3 + h.queues + h.semaphores
        before_long = simp length-append (omega (arith, front.axes_long, front.owners_long))

        -- the plan's counts are the head's
        queues_are : queues (plan_in bs) ≡ h.queues
        unfolding queues
        queues_are = ap (λ (p : Plan). length p.axes) plan_is ∙ front.axes_long

        owners_are : length (plan_in bs).owners ≡ h.semaphores
        owners_are = ap (λ (p : Plan). length p.owners) plan_is ∙ front.owners_long

        sizes_are : length (plan_in bs).sizes ≡ h.buffers
        sizes_are = ap (λ (p : Plan). length p.sizes) plan_is ∙ front.sizes_long

        count_is : count (plan_in bs) ≡ h.operations
        unfolding count
        count_is = ap (λ (p : Plan). length p.operations) plan_is ∙ operations_long h.operations l.blocks

        -- the number after a part of the head, or so many places further
        at_seam : (part rest : List ℕ) (v n : ℕ) → nums ≡ part ++ (v ∷ rest) → length part ≡ n → get_or nums n 0 ≡ v
        at_seam part rest v n e long = ap (λ (x : List ℕ). get_or x n 0) e ∙ get_or_at part v rest 0 n long

        after_part : (part list rest : List ℕ) (n k : ℕ) → nums ≡ part ++ (list ++ rest) → length part ≡ n →
            k < length list → get_or nums (n + k) 0 ≡ get_or list k 0
        after_part part list rest n k e long b =
            ap (λ (i : ℕ). get_or nums (i + k) 0) (sym long)
            ∙ ap (λ (x : List ℕ). get_or x (length part + k) 0) e
            ∙ get_or-append-add part (list ++ rest) k 0
            ∙ get_or-append list rest 0 k b

        load_head : HeadColumn (plan_in bs) nums
        unfolding queues
        load_head = record {
          queues_shown = ap (λ (x : List ℕ). get_or x 0 0) split ∙ sym queues_are;
          semaphores_shown =
              at_seam (h.queues ∷ front.axes) (front.owners ++ after_owners) h.semaphores
              (1 + queues (plan_in bs)) split (omega (arith, front.axes_long, queues_are)) ∙ sym owners_are;
          owners_shown = λ s b.
              let own = h.semaphores ∷ [] in
              after_part ((h.queues ∷ front.axes) ++ own) front.owners after_owners (2 + queues (plan_in bs)) s
              (split ∙ sym (append_assoc (h.queues ∷ front.axes) own (front.owners ++ after_owners)))
              (simp length-append (omega (arith, front.axes_long, queues_are)))
              (omega (arith, owners_are, front.owners_long))
              ∙ ap (λ (p : Plan). get_or p.owners s 0) (sym plan_is);
          buffers_shown =
              at_seam ((h.queues ∷ front.axes) ++ (h.semaphores ∷ front.owners)) (front.sizes ++ after_sizes)
              h.buffers (2 + queues (plan_in bs) + length (plan_in bs).owners) (split ∙ simp append_assoc)
              (simp length-append (omega (arith, front.axes_long, front.owners_long, queues_are, owners_are)))
              ∙ sym sizes_are;
          operations_shown =
              at_seam (before_sizes ++ front.sizes) (drop h.got nums) h.operations
              (3 + queues (plan_in bs) + length (plan_in bs).owners + length (plan_in bs).sizes)
              (split_sizes ∙ simp append_assoc)
              (length-append before_sizes front.sizes
              ∙ omega (arith, before_long, front.sizes_long, queues_are, owners_are, sizes_are))
              ∙ sym count_is;
          axes_shown = λ q l.
              let long : q < length front.axes = omega (arith, ap (λ (p : Plan). length p.axes) plan_is) in
              let second : 1 + q ≡ suc q = omega arith in
              let rest = h.semaphores ∷ (front.owners ++ after_owners) in
              ap (λ (x : List ℕ). get_or x (1 + q) 0) split
              ∙ ap (λ (k : ℕ). get_or ((h.queues ∷ front.axes) ++ rest) k 0) second
              ∙ get_or-append front.axes rest 0 q long
              ∙ ap (λ (p : Plan). get_or p.axes q 0) (sym plan_is);
          sizes_shown = λ b l.
              let inside : b < length front.sizes = omega (arith, ap (λ (p : Plan). length p.sizes) plan_is) in
              let place : 3 + length (plan_in bs).axes + length (plan_in bs).owners + b ≡ length before_sizes + b =
              omega (
                arith,
                before_long,
                ap (λ (p : Plan). length p.axes) plan_is,
                ap (λ (p : Plan). length p.owners) plan_is,
                front.axes_long,
                front.owners_long,
              ) in
              ap (λ (k : ℕ). get_or nums k 0) place
              ∙ ap (λ (x : List ℕ). get_or x (length before_sizes + b) 0) split_sizes
              ∙ get_or-append-add before_sizes (front.sizes ++ after_sizes) b 0
              ∙ get_or-append front.sizes after_sizes 0 b inside
              ∙ ap (λ (p : Plan). get_or p.sizes b 0) (sym plan_is);
        }

        abbrev pub loaded : ToldLoad
        loaded = record {
          number = 0;
          place = 0;
          queues = h.queues;
          semaphores = h.semaphores;
          buffers = h.buffers;
          operations = h.operations;
          signals = signals;
          marks = marks;
        }

        pub load_columns : PlacesFor h.operations cs₀ → Loads bs loaded nums cs
        unfolding queues
        load_columns places = record {
          number = numbers.told.number;
          place = numbers.told.place;
          sizes = record {
            queues = not_refused (sym queues_are);
            semaphores = not_refused (sym owners_are);
            buffers = not_refused (sym sizes_are);
            operations = not_refused (sym count_is);
          };
          none = λ z. absurd (z refl);
          head_shown = λ _. load_head;
          columns = λ _. filling_end (plan_in bs) (scanned_limits bs clean) (all ++ []) h.operations
              (length heading) operations_are done (l.filled small []) places;
        }

        pub load_owners : (plan_in bs).owners ≡ take h.semaphores (drop (2 + h.queues) nums)
        load_owners =
            ap (λ (p : Plan). p.owners) plan_is
            ∙ sym (ap (λ (x : List ℕ). take h.semaphores x)
            (after_seam nums (h.queues ∷ front.axes) (front.owners ++ after_owners) h.semaphores (2 + h.queues)
            split (omega (arith, front.axes_long)))
            ∙ take_at front.owners after_owners h.semaphores front.owners_long)

-- a refusal shows nothing
abbrev pub refused_at : (number place : ℕ) → ToldLoad
refused_at number place = record {
  number = number;
  place = place;
  queues = 0;
  semaphores = 0;
  buffers = 0;
  operations = 0;
  signals = 0;
  marks = 0;
}

pub refused_loads : {bs head : List ℕ} {cs : Columns} {number place : ℕ} →
    (number ≡ (scanned bs).fault.number) × (place ≡ (scanned bs).fault.place) → (number ≡ 0 → ⊥) →
    Loads bs (refused_at number place) head cs
refused_loads {bs} (n, p) z =
    let nothing : (m : ℕ) → 0 ≡ cond (given (scanned bs).fault) 0 m =
    λ m. rw (other_given (scanned bs).fault (λ e. z (n ∙ e))) in
    record {
      number = n;
      place = p;
      sizes = record { queues = nothing _; semaphores = nothing _; buffers = nothing _; operations = nothing _ };
      none = λ _. (refl, refl);
      head_shown = λ e. absurd (z e);
      columns = λ e. absurd (z e);
    }

-- ---- the head
module _ {F : Form} {bs : List ℕ} {h : ToldHead} {nums : List ℕ} (head : HeadRead F bs h nums) where
  pub head_refused : ReadIn F bs → (h.number ≡ 0 → ⊥) →
      (h.number ≡ (scanned bs).fault.number) × (h.at ≡ (scanned bs).fault.place)
  unfolding head_cursor here times scan
  head_refused form z =
      let s = here bs (head_cursor h) nums in
      let met = here_given bs (head_cursor h) nums z in
      let all = take h.got nums in
      let stop = cursor_after h.number h.at all in
      let e = operations_stop F.semaphore_width h s 0 h.operations met (omega arith)
      ∙ sym (here_after bs (head_cursor h) all) in
      let few : length all ≤ h.got = omega (arith, length-take h.got nums) in
      let plan = plan_by head stop (padded all) e head.inside (omega arith) in
      let t = (read_refused form plan (padded_long all (omega (arith, head.few))) z).told in
      (t.number, t.place)

  pub head_long : h.number ≡ 0 → (h.queues ≤ head_numbers) × (2 + h.queues + h.semaphores ≤ length nums)
  head_long z =
      let front = head.heading z in
      let rest = front.owners ++ (h.buffers ∷ (front.sizes ++ (h.operations ∷ []))) in
      let long : length (take h.got nums) ≡ 2 + h.queues + length rest =
      ap (λ (x : List ℕ). length x) front.numbers_are
      ∙ omega (arith, front.axes_long, length-append front.axes (h.semaphores ∷ rest)) in
      let owned = length-append front.owners (h.buffers ∷ (front.sizes ++ (h.operations ∷ []))) in (
        omega (arith, head.few, length-take h.got nums, long),
        omega (arith, length-take h.got nums, long, owned, front.owners_long),
      )
