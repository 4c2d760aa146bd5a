-- Lines laid over a page, one behind the other.
use mathlib.Core.List.{List, ◌++◌}
use mathlib.Core.Path.{◌≡◌, refl, sym, ap, ◌∙◌}
use native.Mathlib.Nat.{zero-add}
use native.Mathlib.Omega.{arith}
use Prim.Native.Nat.{ℕ, ◌+◌, ◌*◌, ◌≤◌, ◌<◌}
use lib.ListN.{length, take, get_or, length-append}
use lib.Seq.{take-append_seam, sets-eq}
use Rattle.std.specs.Prelude.{Result, Ok, Err, Some, None}
use Rattle.std.specs.Result.{result_err}
use Rattle.demand.specs.Limits.{tasks_most}
use Rattle.demand.specs.Numbered.{number_of}
use Rattle.demand.specs.declared.refusal.Refusal.{Refusal}
use Rattle.priority_sheet.specs.declared.Responses.{Responses}
use Rattle.page.specs.Laid as over
use Rattle.page.specs.Laid.{end_of}
use Rattle.page.proofs.Laid.{end-room, lay-behind, laid-nothing, laid-length, laid-sets}
use Rattle.priority_sheet.specs.Printed.{heading, task_line, task_lines, refused_line, line_most, body_of, printed}
use Rattle.priority_sheet.specs.Whole.{laid, page_most}
use Rattle.priority_sheet.proofs.Printed.{task-line-most, task-lines-most, task-lines-next, refused-line-most}
use Rattle.text.specs.Ascii.{crlf}

-- The first bytes of the page are those that were laid there.
pub laid-front : (page bs : List ℕ) → length page ≡ page_most → length bs ≤ page_most → take (length bs) (laid page 0 bs) ≡ bs
laid-front page bs long few = ap (take (length bs)) (sets-eq bs page 0 (omega arith)) ∙ take-append_seam bs _

-- ---- the lines of tasks

module _ (start : List ℕ) (at : ℕ) (ls : List ℕ) where
  abbrev pub Behind : ℕ → ℕ → List ℕ → Type 0
  Behind k end page = (end ≡ at + length (task_lines ls k)) × (page ≡ over.laid start at (task_lines ls k))

  pub lines-start : at ≤ length start → Behind 0 at start
  unfolding task_lines
  lines-start room = (omega arith, sym (laid-nothing start at room))

  pub line-more : at + tasks_most * line_most ≤ length start → (k end : ℕ) (page : List ℕ) → k < tasks_most → Behind k end page
      → (bytes : List ℕ) → bytes ≡ task_line k (get_or ls k 0)
      → (r : ℕ) (p : List ℕ) → (r ≡ end_of (length page) end (length bytes)) × (p ≡ over.laid page end bytes) → Behind (k + 1) r p
  line-more room k end page h here bytes said r p laid_so =
      let more = task_line k (get_or ls k 0) in
      let behind =
      lay-behind start at (task_lines ls k) more page end (omega (arith, task-lines-most ls k, task-line-most k (get_or ls k 0))) here.0 here.1 r p (
        laid_so.0 ∙ ap (λ (bs : List ℕ). end_of (length page) end (length bs)) said,
        laid_so.1 ∙ ap (over.laid page end) said,
      ) in
      rw (task-lines-next ls k) behind

-- ---- the header, and what stands behind it

abbrev pub header : List ℕ
header = heading ++ crlf

module _ (start page : List ℕ) (at : ℕ) (long : length start ≡ page_most)
    (first : (at ≡ end_of (length start) 0 (length header)) × (page ≡ over.laid start 0 header)) where
  pub header-ends : at ≡ length header
  header-ends = first.0 ∙ end-room start header 0 (omega (arith, long)) ∙ zero-add (length header)

  pub page-long : length page ≡ page_most
  page-long = ap length first.1 ∙ laid-length start header 0 (omega (arith, long)) ∙ long

  -- What is laid behind it stands behind it on the page.
  body-laid : (body page' : List ℕ) (r : ℕ) → length body ≤ tasks_most * line_most → (r ≡ at + length body) × (page' ≡ over.laid page at body)
      → (page' ≡ laid start 0 (header ++ body)) × (r ≡ length (header ++ body))
  body-laid body page' r few laid_so =
      let fits : 0 + (length header + length body) ≤ length start = omega (arith, long, few) in
      let at-end : at ≡ 0 + length header = header-ends ∙ sym (zero-add (length header)) in
      let behind =
      lay-behind start 0 header body page at fits at-end first.1 r page'
      (laid_so.0 ∙ sym (end-room page body at (omega (arith, page-long, fits, at-end))), laid_so.1) in
      (behind.1 ∙ laid-sets start (header ++ body) 0 (omega (arith, length-append header body, fits)), behind.0 ∙ zero-add (length (header ++ body)))

  -- The lines of tasks,
  pub found-laid : (s : Result Responses Refusal) (r : Responses) → s ≡ Ok r → r.count ≤ tasks_most → (end : ℕ) (page' : List ℕ)
      → (end ≡ at + length (task_lines r.least r.count)) × (page' ≡ over.laid page at (task_lines r.least r.count))
      → (page' ≡ laid start 0 (printed s)) × (end ≡ length (printed s)) × (None ≡ result_err s)
  unfolding printed body_of
  found-laid s r is few end page' laid_so =
      let wrote = body-laid (task_lines r.least r.count) page' end (omega (arith, task-lines-most r.least r.count)) laid_so in
      rw is (wrote.0, wrote.1, refl)

  -- or that of a refusal.
  pub refused-laid : (s : Result Responses Refusal) (e : Refusal) → s ≡ Err e → (bytes : List ℕ) → bytes ≡ refused_line (number_of e)
      → (end : ℕ) (page' : List ℕ)
      → (end ≡ end_of (length page) at (length bytes)) × (page' ≡ over.laid page at bytes)
      → (page' ≡ laid start 0 (printed s)) × (end ≡ length (printed s)) × (Some e ≡ result_err s)
  unfolding printed body_of
  refused-laid s e is bytes said end page' laid_so =
      let body = refused_line (number_of e) in
      let few : length body ≤ line_most = refused-line-most (number_of e) in
      let ends : end ≡ at + length body =
      laid_so.0 ∙ ap (λ (bs : List ℕ). end_of (length page) at (length bs)) said
      ∙ end-room page body at (omega (arith, header-ends, page-long, few)) in
      let wrote = body-laid body page' end (omega (arith, few)) (ends, laid_so.1 ∙ ap (over.laid page at) said) in
      rw is (wrote.0, wrote.1, refl)
