-- The segments that the reader builds are those of the rows read whole.
use mathlib.Core.Bool.{Bool, true, false}
use mathlib.Core.List.{List, [], ◌∷◌, ◌++◌, append-nil, append_assoc}
use mathlib.Core.Path.{◌≡◌, refl, sym, ap, subst, ◌∙◌}
use native.Mathlib.Numerals.{add-one}
use native.Mathlib.Omega.{arith}
use Prim.Native.Nat.{ℕ, suc, ◌+◌, ◌-◌, ◌*◌, ◌<◌, ◌≤◌}
use borrow.Author.Tests.{lt-ltb, le-ltb}
use lib.ListN.{length, set, take, get_or, replicate, length-append}
use lib.Seq.{set_at, take-suc, take_all}
use Rattle.demand.specs.Tests.{pick}
use Rattle.demand.specs.declared.table.Kind.{Kind}
use Rattle.schedule_file.specs.File.{Entry, entry}
use Rattle.std.specs.Prelude.{Some, None, Result, Ok, Err}
use Rattle.demand.specs.declared.refusal.Refusal.{Refusal}
use Rattle.demand.specs.declared.refusal.Refusal.TheVariants.{FileMalformed}
use Rattle.schedule_file.specs.Inside.Building.{added, Reading, reading, next, read_from}
use Rattle.schedule_file.specs.Inside.Building.{read_over, few, few_of, rows_at_end}
use Rattle.schedule_file.specs.Inside.Built.{count_most, Built, Grows, schedule_for}
use Rattle.schedule_file.specs.Inside.Steps.{after_byte, is_start}
use Rattle.schedule_file.specs.Schedule.{kind_number, entry_numbers, numbers_of, numbers_most, filled}
use Rattle.schedule_file.specs.declared.reader.Schedule.{Schedule}
use Rattle.schedule_file.specs.declared.steps.State.{State}
use Rattle.schedule_file.specs.declared.steps.State.TheVariants.{Head}
use Rattle.segments.specs.Promise.{segments_most}
use Rattle.text.specs.Ascii.{crlf}
use Rattle.schedule_file.proofs.Inside.Texts.{read-append}

-- ---- one row more

-- A store behind numbers that have room.
longer : (s : List ℕ) (n x : ℕ) → length s ≡ n → n < numbers_most → set (filled s) n x ≡ filled (s ++ (x ∷ []))
unfolding filled
longer s n x e h =
    let free : numbers_most - length s ≡ suc (numbers_most - suc n) = omega arith in
    let left : numbers_most - suc n ≡ numbers_most - length (s ++ (x ∷ [])) = omega (arith, length-append s (x ∷ [])) in
    ap (λ (k : ℕ). set (s ++ replicate k 0) n x) free
    ∙ set_at s 0 (replicate (numbers_most - suc n) 0) x n e
    ∙ sym (append_assoc s (x ∷ []) (replicate (numbers_most - suc n) 0))
    ∙ ap (λ (k : ℕ). (s ++ (x ∷ [])) ++ replicate k 0) left

-- Four of them.
longer-four : (s : List ℕ) (n a b c d : ℕ) → length s ≡ n → n + 4 ≤ numbers_most
    → set (set (set (set (filled s) n a) (n + 1) b) (n + 2) c) (n + 3) d ≡ filled (s ++ (a ∷ b ∷ c ∷ d ∷ []))
longer-four s n a b c d e h =
    let one = longer s n a e (omega arith) in
    let two = longer (s ++ (a ∷ [])) (n + 1) b (omega (arith, length-append s (a ∷ []))) (omega arith) in
    let s2 : (s ++ (a ∷ [])) ++ (b ∷ []) ≡ s ++ (a ∷ b ∷ []) = append_assoc s (a ∷ []) (b ∷ []) in
    let three = longer (s ++ (a ∷ b ∷ [])) (n + 2) c (omega (arith, length-append s (a ∷ b ∷ []))) (omega arith) in
    let s3 : (s ++ (a ∷ b ∷ [])) ++ (c ∷ []) ≡ s ++ (a ∷ b ∷ c ∷ []) = append_assoc s (a ∷ b ∷ []) (c ∷ []) in
    let four = longer (s ++ (a ∷ b ∷ c ∷ [])) (n + 3) d (omega (arith, length-append s (a ∷ b ∷ c ∷ []))) (omega arith) in
    let s4 : (s ++ (a ∷ b ∷ c ∷ [])) ++ (d ∷ []) ≡ s ++ (a ∷ b ∷ c ∷ d ∷ []) = append_assoc s (a ∷ b ∷ c ∷ []) (d ∷ []) in
    ap (λ (z : List ℕ). set (set (set z (n + 1) b) (n + 2) c) (n + 3) d) one
    ∙ ap (λ (z : List ℕ). set (set z (n + 2) c) (n + 3) d) (two ∙ ap filled s2)
    ∙ ap (λ (z : List ℕ). set z (n + 3) d) (three ∙ ap filled s3)
    ∙ four
    ∙ ap filled s4

-- Four numbers a row.
pub numbers-length : (es : List Entry) → length (numbers_of es) ≡ 4 * length es
unfolding numbers_of
numbers-length [] = refl
numbers-length (entry kind row from to ∷ es) = omega (arith, numbers-length es)

numbers-next : (es : List Entry) (e : Entry) → numbers_of (es ++ (e ∷ [])) ≡ numbers_of es ++ entry_numbers e
unfolding numbers_of
numbers-next [] (entry kind row from to) = refl
numbers-next (x ∷ es) e =
    ap (λ (z : List ℕ). entry_numbers x ++ z) (numbers-next es e) ∙ sym (append_assoc (entry_numbers x) (numbers_of es) (entry_numbers e))

module _ (n : ℕ) (ns : List ℕ) (es : List Entry) (built : Built n ns es) (kind : Kind) (row from to : ℕ) where
  abbrev one : List Entry
  one = entry kind row from to ∷ []

  -- While there is room it is stored,
  pub push-stored : n < segments_most → (k : ℕ) → k ≡ kind_number kind
      → Built (n + 1) (set (set (set (set ns (4 * n) k) (4 * n + 1) row) (4 * n + 2) from) (4 * n + 3) to) (es ++ one)
  push-stored h k ek = record {
    count = omega (arith, built.count, length-append es one);
    numbers = λ l.
        (let rows : length es ≡ n = omega (arith, built.count) in
        ap (λ (z : List ℕ). set (set (set (set z (4 * n) k) (4 * n + 1) row) (4 * n + 2) from) (4 * n + 3) to)
        (built.numbers (omega (arith, rows)))
        ∙ longer-four (numbers_of es) (4 * n) k row from to (omega (arith, numbers-length es, rows)) (omega arith)
        ∙ ap (λ (x : ℕ). filled (numbers_of es ++ (x ∷ row ∷ from ∷ to ∷ []))) ek
        ∙ ap filled (sym (numbers-next es (entry kind row from to))));
  }

  -- and past that it is counted.
  pub push-counted : segments_most ≤ n → Built count_most ns (es ++ one)
  push-counted h = record {
    count = omega (arith, built.count, length-append es one);
    numbers = λ l. absurd (omega (arith, built.count, length-append es one));
  }

-- No row, nothing more.
pub built-same : (n : ℕ) (ns : List ℕ) (es : List Entry) → Built n ns es → Built n ns (es ++ [])
built-same n ns es b = rw append-nil b

-- The same rows, the same growth.
pub grows-as : (n : ℕ) (ns : List ℕ) (m : ℕ) (ms : List ℕ) (fs gs : List Entry) → fs ≡ gs → Grows n ns gs m ms → Grows n ns fs m ms
grows-as n ns m ms fs gs e g = λ es b. subst (λ (z : List Entry). Built m ms (es ++ z)) (sym e) (g es b)

-- ---- the end

module _ (n : ℕ) (ns : List ℕ) (es : List Entry) (built : Built n ns es) where
  -- Too many are broken,
  pub finished-over : segments_most < n → (r : Result Schedule Refusal) → r ≡ Err FileMalformed → r ≡ schedule_for (few es)
  finished-over h r e =
      e ∙ sym (ap (λ (t : Bool). schedule_for (pick t None (Some es))) (lt-ltb segments_most (length es) (omega (arith, built.count))))

  -- and few enough are the answer.
  pub finished-few : n ≤ segments_most → Ok (record { len = 4 * n; numbers = ns }) ≡ schedule_for (few es)
  finished-few h =
      let rows : length es ≡ n = omega (arith, built.count) in
      let len : 4 * n ≡ length (numbers_of es) = omega (arith, numbers-length es, rows) in
      let numbers : ns ≡ filled (numbers_of es) = built.numbers (omega (arith, rows)) in
      (λ i. Ok (record { len = len i; numbers = numbers i }))
      ∙ sym (ap (λ (t : Bool). schedule_for (pick t None (Some es))) (le-ltb segments_most (length es) (omega (arith, rows))))

-- From the two steps of a CRLF: the last line lacked it, or did not.
module _ (st cr lf : State) (es : List Entry) (first : cr ≡ after_byte st 13) (then : lf ≡ after_byte cr 10) where
  at-end : is_start (read_from (reading st es) crlf).st ≡ is_start lf
  at-end = sym (ap is_start (then ∙ ap (λ (s : State). after_byte s 10) first))

  -- The last line lacked its CRLF,
  pub close-short : is_start lf ≡ true → (r : Result Schedule Refusal) → r ≡ schedule_for (few (es ++ added cr 10))
      → r ≡ schedule_for (few_of (rows_at_end (reading st es)))
  close-short e r f =
      f ∙ ap (λ (s : State). schedule_for (few (es ++ added s 10))) first
      ∙ ap (λ (z : List Entry). schedule_for (few (z ++ added (after_byte st 13) 10))) (sym (append-nil es))
      ∙ sym (ap (λ (t : Bool).
      schedule_for (few_of (pick t (Some (read_from (reading st es) crlf).rows) (pick (is_start st) (Some es) None)))) (at-end ∙ e))

  -- had it,
  pub close-full : is_start lf ≡ false → is_start st ≡ true → (r : Result Schedule Refusal) → r ≡ schedule_for (few es)
      → r ≡ schedule_for (few_of (rows_at_end (reading st es)))
  close-full e t r f =
      f ∙ sym (ap (λ (b : Bool).
      schedule_for (few_of (pick b (Some (read_from (reading st es) crlf).rows) (pick (is_start st) (Some es) None)))) (at-end ∙ e)
      ∙ ap (λ (b : Bool). schedule_for (few_of (pick b (Some es) None))) t)

  -- or there is no whole line.
  pub close-broken : is_start lf ≡ false → is_start st ≡ false → (r : Result Schedule Refusal) → r ≡ Err FileMalformed
      → r ≡ schedule_for (few_of (rows_at_end (reading st es)))
  close-broken e t r f =
      f ∙ sym (ap (λ (b : Bool).
      schedule_for (few_of (pick b (Some (read_from (reading st es) crlf).rows) (pick (is_start st) (Some es) None)))) (at-end ∙ e)
      ∙ ap (λ (b : Bool). schedule_for (few_of (pick b (Some es) None))) t)

-- ---- the reader's loop: before the byte at i it stands where the reading over the first i bytes does

read_take : (bs : List ℕ) (i : ℕ) → i < length bs → read_over (take (i + 1) bs) ≡ next (read_over (take i bs)) (get_or bs i 0)
read_take bs i h =
    ap (λ (n : ℕ). read_over (take n bs)) (add-one i) ∙ ap read_over (take-suc bs i 0 h)
    ∙ read-append (reading (Head 0) []) (take i bs) (get_or bs i 0 ∷ [])

-- Where the loop stands, and what it has built.
pub record Stands (bs : List ℕ) (n : ℕ) (ns : List ℕ) (st : State) (i : ℕ) : Type 0 where
  pub state : st ≡ (read_over (take i bs)).st
  pub built : Built n ns (read_over (take i bs)).rows

-- Before the first byte,
pub stands-first : (bs ns : List ℕ) → ns ≡ filled [] → Stands bs 0 ns (Head 0) 0
unfolding numbers_of
stands-first bs ns e = record { state = refl; built = record { count = refl; numbers = λ l. e } }

-- a byte further,
pub stands-next : (bs : List ℕ) (n : ℕ) (ns : List ℕ) (st : State) (i : ℕ) → Stands bs n ns st i → i < length bs
    → (m : ℕ) (ms : List ℕ) (s : State) → s ≡ after_byte st (get_or bs i 0)
    → ((es : List Entry) → Built n ns es → Built m ms (es ++ added st (get_or bs i 0))) → Stands bs m ms s (i + 1)
stands-next bs n ns st i stands h m ms s es-st fed =
    let before = read_over (take i bs) in
    let after = read_take bs i h in
    let rows : (read_over (take (i + 1) bs)).rows ≡ before.rows ++ added st (get_or bs i 0) =
    ap (λ (w : Reading). w.rows) after ∙ ap (λ (x : State). before.rows ++ added x (get_or bs i 0)) (sym stands.state) in
    record {
      state = es-st ∙ ap (λ (x : State). after_byte x (get_or bs i 0)) stands.state ∙ sym (ap (λ (w : Reading). w.st) after);
      built = subst (λ (z : List Entry). Built m ms z) (sym rows) (fed before.rows stands.built);
    }

-- and behind the last.
pub stands-end : (bs : List ℕ) (n : ℕ) (ns : List ℕ) (st : State) (i : ℕ) → Stands bs n ns st i → length bs ≤ i → (r : Result Schedule Refusal)
    → ((es : List Entry) → Built n ns es → r ≡ schedule_for (few_of (rows_at_end (reading st es))))
    → r ≡ schedule_for (few_of (rows_at_end (read_over bs)))
stands-end bs n ns st i stands h r closed =
    closed (read_over (take i bs)).rows stands.built
    ∙ ap (λ (x : State). schedule_for (few_of (rows_at_end (reading x (read_over (take i bs)).rows)))) stands.state
    ∙ ap (λ (z : List ℕ). schedule_for (few_of (rows_at_end (read_over z)))) (take_all i bs h)
