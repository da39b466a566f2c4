-- The numbers of an operation: its queue, then its waits, signals and marks, each after their count. Assumes nothing.
use mathlib.Core.Path.{◌≡◌, subst}
use mathlib.Core.List.{List, [], ◌∷◌, ◌++◌, append_assoc, append-nil}
use Prim.Native.Nat.{ℕ, ◌≤◌, ◌<◌}
use native.Mathlib.Omega.{arith}
use lib.Dec.{ltb}
use borrow.Author.Tests.{ltb-true, ltb-false, lt-ltb}
use Rattle.base_lists.proofs.Tests.{by_cases}
use Rattle.plan_format.specs.Sizes.{most_waits, most_signals, most_marks, least_wait, least_signal}
use Rattle.plan_format.specs.Form.{Form, queue_count, semaphore_count, buffer_count, below, at_least, a_queue}
use Rattle.plan_format.specs.Form.{a_semaphore, a_buffer, a_kind, point, mark, operation}
use Rattle.plan_format.proofs.ChecksMeaning.{value_means}
use Rattle.plan_format.proofs.Parses.{Spelt, Many, Parses}
use Rattle.plan_format.proofs.Entries.{Pairs, listing, many_pairs}

-- points of semaphores below s, with values from the least on; marks of buffers below b, each a use or a free
abbrev pub Points : (s least k : ℕ) → List ℕ → Type 0
Points s l = Pairs (λ v. v < s) (λ v. l ≤ v)

abbrev pub Marks : (b k : ℕ) → List ℕ → Type 0
Marks b = Pairs (λ v. v < b) (λ v. v < 2)

pub record Block (q s b : ℕ) (xs : List ℕ) : Type 0 where
  pub queue : ℕ
  pub waits : ℕ
  pub signals : ℕ
  pub marks : ℕ
  pub ws : List ℕ
  pub ss : List ℕ
  pub ms : List ℕ
  pub queue_in : queue < q
  pub few_waits : waits ≤ most_waits
  pub few_signals : signals ≤ most_signals
  pub few_marks : marks ≤ most_marks
  pub waited : Points s least_wait waits ws
  pub signalled : Points s least_signal signals ss
  pub marked : Marks b marks ms
  pub numbers_are : xs ≡ queue ∷ (waits ∷ (ws ++ (signals ∷ (ss ++ (marks ∷ ms)))))

-- the counts that the numbers read so far begin with
pub record CountsGiven (q s b : ℕ) (got : List ℕ) : Type 0 where
  pub queues : queue_count got ≡ q
  pub semaphores : semaphore_count got ≡ s
  pub buffers : buffer_count got ≡ b

-- they stay whatever is read after
abbrev pub Kept : (q s b : ℕ) → List ℕ → Type 0
Kept q s b got = (more : List ℕ) → CountsGiven q s b (got ++ more)

module _ (q s b : ℕ) where
  pub kept_now : (got : List ℕ) → Kept q s b got → CountsGiven q s b got
  kept_now got k = rw append-nil at (k [])

  pub kept_more : (got vs : List ℕ) → Kept q s b got → Kept q s b (got ++ vs)
  kept_more got vs k more = rw append_assoc (k (vs ++ more))

pub below_lt : (l v : ℕ) → below l v ≡ 0 → v < l
unfolding below
below_lt l v e = by_cases (ltb v l) (λ t. ltb-true v l t) (λ f. absurd (let z : 4 ≡ 0 = rw f at e in omega arith))

pub passes_below : (l v n : ℕ) → l ≡ n → v < n → below l v ≡ 0
unfolding below
passes_below l v n e h = rw (e, lt-ltb v n h)

pub passes_at_least : (l : ℕ) (got : List ℕ) (v : ℕ) → l ≤ v → at_least l got v ≡ 0
passes_at_least l got v h = (value_means l got v).otherwise (λ b. omega arith)

glued : {vs v₁ v₂ v₃ v₄ v₅ v₆ ws ss ms : List ℕ} {q w s m : ℕ} →
    vs ≡ v₁ ++ v₂ → v₁ ≡ q ∷ [] → v₂ ≡ v₃ ++ v₄ → v₃ ≡ w ∷ ws → v₄ ≡ v₅ ++ v₆ → v₅ ≡ s ∷ ss → v₆ ≡ m ∷ ms →
    vs ≡ q ∷ (w ∷ (ws ++ (s ∷ (ss ++ (m ∷ ms)))))
glued a b c d e f g = cc

module _ (D : Spelt) where
  module _ (F : Form) (q s b : ℕ) where
    pub is_queue : (got : List ℕ) (v : ℕ) → Kept q s b got → a_queue got v ≡ 0 → v < q
    unfolding a_queue
    is_queue got v g e = subst (λ z. v < z) (kept_now q s b got g).queues (below_lt (queue_count got) v e)

    pub is_semaphore : (got : List ℕ) (v : ℕ) → Kept q s b got → a_semaphore got v ≡ 0 → v < s
    unfolding a_semaphore
    is_semaphore got v g e = subst (λ z. v < z) (kept_now q s b got g).semaphores (below_lt (semaphore_count got) v e)

    pub is_buffer : (got : List ℕ) (v : ℕ) → Kept q s b got → a_buffer got v ≡ 0 → v < b
    unfolding a_buffer
    is_buffer got v g e = subst (λ z. v < z) (kept_now q s b got g).buffers (below_lt (buffer_count got) v e)

    pub is_kind : (got : List ℕ) (v : ℕ) → Kept q s b got → a_kind got v ≡ 0 → v < 2
    unfolding a_kind
    is_kind got v g e = below_lt 2 v e

    pub is_value : (l : ℕ) (got : List ℕ) (v : ℕ) → Kept q s b got → at_least l got v ≡ 0 → l ≤ v
    is_value l got v g e =
        by_cases (ltb v l) (λ t. absurd (omega (arith, e, (value_means l got v).yes (ltb-true v l t))))
        (λ f. ltb-false v l f)

    are_points : (l k : ℕ) (got vs ds : List ℕ) → Kept q s b got → Many (Parses D (point F l)) k got vs ds →
        Points s l k vs
    unfolding point
    are_points l =
        many_pairs D (Kept q s b) (kept_more q s b) (λ v. v < s)
        (λ v. l ≤ v) F.semaphore_width 8 a_semaphore (at_least l) is_semaphore
        (is_value l)

    are_marks : (k : ℕ) (got vs ds : List ℕ) → Kept q s b got → Many (Parses D mark) k got vs ds → Marks b k vs
    unfolding mark
    are_marks =
        many_pairs D (Kept q s b) (kept_more q s b) (λ v. v < b) (λ v. v < 2) 2 1 a_buffer a_kind is_buffer is_kind

    pub operation_block : (got vs ds : List ℕ) → Kept q s b got → Parses D (operation F) got vs ds → Block q s b vs
    unfolding operation
    operation_block got vs ds g p =
        let p₁ = p.second in
        let p₂ = p₁.second in
        let got₁ = got ++ p.vs₁ in
        let got₂ = got₁ ++ p₁.vs₁ in
        let got₃ = got₂ ++ p₂.vs₁ in
        let g₁ = kept_more q s b got p.vs₁ g in
        let g₂ = kept_more q s b got₁ p₁.vs₁ g₁ in
        let g₃ = kept_more q s b got₂ p₂.vs₁ g₂ in
        let cw = listing D 0 most_waits 1 (Parses D (point F least_wait)) got₁ p₁.vs₁ p₁.ds₁ p₁.first in
        let cs = listing D 0 most_signals 1 (Parses D (point F least_signal)) got₂ p₂.vs₁ p₂.ds₁ p₂.first in
        let cm = listing D 0 most_marks 1 (Parses D mark) got₃ p₂.vs₂ p₂.ds₂ p₂.second in
        let o = p.first in
        record {
          queue = o.number;
          waits = cw.count;
          signals = cs.count;
          marks = cm.count;
          ws = cw.entries;
          ss = cs.entries;
          ms = cm.entries;
          queue_in = is_queue got o.number g o.holds.passes;
          few_waits = cw.most;
          few_signals = cs.most;
          few_marks = cm.most;
          waited = are_points least_wait cw.count (got₁ ++ (cw.count ∷ [])) cw.entries cw.spelling
              (kept_more q s b got₁ (cw.count ∷ []) g₁)
              cw.many;
          signalled = are_points least_signal cs.count (got₂ ++ (cs.count ∷ [])) cs.entries cs.spelling
              (kept_more q s b got₂ (cs.count ∷ []) g₂)
              cs.many;
          marked = are_marks cm.count (got₃ ++ (cm.count ∷ [])) cm.entries cm.spelling
              (kept_more q s b got₃ (cm.count ∷ []) g₃)
              cm.many;
          numbers_are = glued p.numbers_are o.holds.numbers_are p₁.numbers_are cw.numbers_are
              p₂.numbers_are
              cs.numbers_are cm.numbers_are;
        }
