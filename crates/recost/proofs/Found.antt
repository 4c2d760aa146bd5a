-- The search finds the cost: lines hold no LF but at their ends, and each begins with its kind's letter.
--   NoLf bs    no byte of bs is an LF
use mathlib.Core.Bool.{Bool, true, false}
use mathlib.Core.List.{List, [], ◌∷◌, ◌++◌, append_assoc}
use mathlib.Core.Path.{◌≡◌, refl, ap, ◌∙◌}
use native.Mathlib.Nat.{sub-zero}
use native.Mathlib.Omega.{arith}
use borrow.Author.Tests.{ne_eqb}
use Prim.Native.Nat.{ℕ, zero, suc, ◌+◌, ◌-◌, ◌/◌, ◌%◌}
use lib.Dec.{eqb, ltb}
use lib.ListN.{length, length-append, get_or}
use Rattle.demand.specs.Tests.{pick}
use Rattle.demand.specs.declared.table.Kind.{Kind}
use Rattle.demand.specs.declared.table.Kind.TheVariants.{Task, Handler}
use Rattle.layout.specs.File.{Entry, entry, header_of, name_of, last_text, entry_text, body, file_text}
use Rattle.layout.specs.declared.steps.Last.{Last}
use Rattle.layout.specs.declared.steps.Last.TheVariants.{NoField, Empty, Number}
use Rattle.layout.specs.declared.words.Columns.{Columns}
use Rattle.layout.specs.declared.words.Columns.TheVariants.{Three, Four}
use Rattle.layout.proofs.Places.{before_cost}
use Rattle.text.specs.Ascii.{crlf}
use Rattle.text.specs.Numbers.{last_digits, decimal, comma, field}
use Rattle.recost.specs.Inside.Scan.{behind_name, cost_from}
use Rattle.recost.specs.Rewritten.{tasks_in}

abbrev NoLf : List ℕ → Type 0
NoLf [] = Unit
NoLf (b ∷ bs) = (eqb b 10 ≡ false) × NoLf bs

both-free : (xs ys : List ℕ) → NoLf xs → NoLf ys → NoLf (xs ++ ys)
both-free [] ys f g = g
both-free (x ∷ xs) ys f g = (f.0, both-free xs ys f.1 g)

-- Bytes without an LF are passed over.
passes : (xs ys : List ℕ) (k : ℕ) → NoLf xs → cost_from (xs ++ ys) k ≡ length xs + cost_from ys k
unfolding cost_from
passes [] ys k f = omega arith
passes (x ∷ xs) ys k f = rw (f.0, sub-zero k) (let e = passes xs ys k f.1 in omega (arith, e))

-- ---- a row's text has none

digit-free : (n : ℕ) → eqb (48 + n) 10 ≡ false
digit-free n = ne_eqb (48 + n) 10 (λ e. omega arith)

digits-free : (k n : ℕ) → NoLf (last_digits k n)
digits-free zero n = tt
digits-free (suc k) n = go (ltb n 10) (digits-free k (n / 10))
  where
    go : (b : Bool) → NoLf (last_digits k (n / 10)) → NoLf (pick b ((48 + n) ∷ []) (last_digits k (n / 10) ++ ((48 + n % 10) ∷ [])))
    go true front = (digit-free n, tt)
    go false front = both-free (last_digits k (n / 10)) ((48 + n % 10) ∷ []) front (digit-free (n % 10), tt)

field-free : (n : ℕ) → NoLf (field n)
unfolding decimal
field-free n = (refl, digits-free 20 n)

last-free : (last : Last) → NoLf (last_text last)
last-free NoField = tt
last-free Empty = (refl, tt)
last-free (Number d) = field-free d

name_free : (kind : Kind) → NoLf (name_of kind)
name_free Task = (refl, (refl, (refl, (refl, tt))))
name_free Handler = (refl, (refl, (refl, (refl, (refl, (refl, (refl, tt)))))))

row-free : (kind : Kind) (c p : ℕ) (last : Last) → NoLf (entry_text (entry kind c p last))
row-free kind c p last =
    both-free (name_of kind) (field c ++ (field p ++ last_text last)) (name_free kind)
    (both-free (field c) (field p ++ last_text last) (field-free c) (both-free (field p) (last_text last) (field-free p) (last-free last)))

-- told by computing
abbrev free_in : List ℕ → Bool
free_in [] = true
free_in (b ∷ bs) = pick (eqb b 10) false (free_in bs)

free-by : (bs : List ℕ) → free_in bs ≡ true → NoLf bs
free-by [] e = tt
free-by (b ∷ bs) e = go (eqb b 10) refl e (free-by bs)
  where
    go : (t : Bool) → eqb b 10 ≡ t → pick t false (free_in bs) ≡ true → (free_in bs ≡ true → NoLf bs) → NoLf (b ∷ bs)
    go true t f rest = absurd (let z : ◌≡◌ {A = ℕ} 0 1 = ap (λ (b : Bool). pick b 1 0) f in omega arith)
    go false t f rest = (t, rest f)

header-free : (cols : Columns) → NoLf (header_of cols)
header-free Three = free-by (header_of Three) refl
header-free Four = free-by (header_of Four) refl

-- ---- a line end, and the letter behind it

cr-passed : (xs : List ℕ) (k : ℕ) → cost_from (13 ∷ xs) k ≡ suc (cost_from xs k)
unfolding cost_from
cr-passed xs k = rw (sub-zero k)

lf-task : (xs : List ℕ) (k : ℕ) → get_or xs 0 0 ≡ 116 → cost_from (10 ∷ xs) (suc k) ≡ suc (cost_from xs k)
unfolding cost_from
lf-task xs k e = rw e (ap (λ (j : ℕ). suc (cost_from xs j)) (let n : suc k - 1 ≡ k = omega arith in n))

lf-found : (xs : List ℕ) → get_or xs 0 0 ≡ 116 → cost_from (10 ∷ xs) 0 ≡ behind_name
unfolding cost_from
lf-found xs e = rw e

lf-handler : (xs : List ℕ) (k : ℕ) → get_or xs 0 0 ≡ 104 → cost_from (10 ∷ xs) k ≡ suc (cost_from xs k)
unfolding cost_from
lf-handler xs k e = rw (e, sub-zero k)

-- ---- rows before the one that is looked for

-- A line end and the row behind it: a task is one fewer to go.
row-passed : (e : Entry) (zs : List ℕ) (k : ℕ) →
    cost_from (crlf ++ (entry_text e ++ zs)) (tasks_in (e ∷ []) + k) ≡ 2 + (length (entry_text e) + cost_from zs k)
unfolding tasks_in
row-passed (entry Task c p last) zs k =
    let xs = entry_text (entry Task c p last) ++ zs in
    let skip = passes (entry_text (entry Task c p last)) zs k (row-free Task c p last) in
    let one : 1 + k ≡ suc k = omega arith in
    cr-passed (10 ∷ xs) (1 + k) ∙ ap (λ (j : ℕ). suc (cost_from (10 ∷ xs) j)) one ∙ ap suc (lf-task xs k refl) ∙ omega (arith, skip)
row-passed (entry Handler c p last) zs k =
    let xs = entry_text (entry Handler c p last) ++ zs in
    let skip = passes (entry_text (entry Handler c p last)) zs k (row-free Handler c p last) in
    let none : 0 + k ≡ k = omega arith in
    cr-passed (10 ∷ xs) (0 + k) ∙ ap (λ (j : ℕ). suc (cost_from (10 ∷ xs) j)) none ∙ ap suc (lf-handler xs k refl) ∙ omega (arith, skip)

tasks-cons : (e : Entry) (es : List Entry) → tasks_in (e ∷ es) ≡ tasks_in (e ∷ []) + tasks_in es
unfolding tasks_in
tasks-cons (entry Task c p last) es = omega arith
tasks-cons (entry Handler c p last) es = omega arith

rows-passed : (es : List Entry) (zs : List ℕ) (k : ℕ) → cost_from (body es ++ zs) (tasks_in es + k) ≡ length (body es) + cost_from zs k
unfolding tasks_in
rows-passed [] zs k = ap (λ (j : ℕ). cost_from zs j) (let n : 0 + k ≡ k = omega arith in n) ∙ (let n : cost_from zs k ≡ 0 + cost_from zs k = omega arith in n)
rows-passed (e ∷ es) zs k =
    let text : body (e ∷ es) ++ zs ≡ crlf ++ (entry_text e ++ (body es ++ zs)) = simp append_assoc in
    let count : tasks_in (e ∷ es) + k ≡ tasks_in (e ∷ []) + (tasks_in es + k) = omega (arith, tasks-cons e es) in
    let long : length (body (e ∷ es)) ≡ 2 + (length (entry_text e) + length (body es)) =
    omega (arith, length-append (crlf ++ entry_text e) (body es), length-append crlf (entry_text e)) in
    ap (λ (xs : List ℕ). cost_from xs (tasks_in (e ∷ es) + k)) text
    ∙ ap (λ (j : ℕ). cost_from (crlf ++ (entry_text e ++ (body es ++ zs))) j) count
    ∙ row-passed e (body es ++ zs) (tasks_in es + k)
    ∙ omega (arith, rows-passed es zs k, long)

-- ---- the row itself

pub cost-found : (cols : Columns) (es : List Entry) (zs : List ℕ) →
    cost_from (before_cost cols es Task ++ zs) (tasks_in es) ≡ length (before_cost cols es Task)
cost-found cols es zs =
    let name = name_of Task ++ (comma ∷ []) in
    let text : before_cost cols es Task ++ zs ≡ header_of cols ++ (body es ++ (crlf ++ (name ++ zs))) = simp append_assoc in
    let here : cost_from (crlf ++ (name ++ zs)) 0 ≡ 7 = cr-passed (10 ∷ (name ++ zs)) 0 ∙ ap suc (lf-found (name ++ zs) refl) in
    let none : tasks_in es ≡ tasks_in es + 0 = omega arith in
    let long : length (before_cost cols es Task) ≡ (length (header_of cols) + length (body es)) + 7 =
    omega (arith, length-append (file_text cols es) (crlf ++ name), length-append (header_of cols) (body es)) in
    ap (λ (xs : List ℕ). cost_from xs (tasks_in es)) text
    ∙ passes (header_of cols) (body es ++ (crlf ++ (name ++ zs))) (tasks_in es) (header-free cols)
    ∙ ap (λ (k : ℕ). length (header_of cols) + cost_from (body es ++ (crlf ++ (name ++ zs))) k) none
    ∙ omega (arith, rows-passed es (crlf ++ (name ++ zs)) 0, here, long)
