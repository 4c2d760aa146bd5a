-- Lines laid over a page, one behind the other.
use mathlib.Core.List.{List, ◌++◌}
use mathlib.Core.Path.{◌≡◌, sym, ap, ◌∙◌}
use native.Mathlib.Nat.{zero-add}
use native.Mathlib.Omega.{arith}
use Prim.Native.Nat.{ℕ, ◌+◌, ◌*◌, ◌≤◌, ◌<◌}
use lib.ListN.{length, take, get_or, length-append}
use lib.Seq.{take-append_seam, sets-eq}
use Rattle.guard_file.specs.Inside.Building.{guards_held}
use Rattle.guard_file.specs.Inside.Pages.{guard_lines_by, guard_most, lines_up_to}
use Rattle.guard_file.specs.Page.{laid, page_most, rows_heading}
use Rattle.guard_file.proofs.Printed.{guard-lines-most, lines-most, lines_next}
use Rattle.page.specs.Laid as over
use Rattle.page.specs.Laid.{end_of}
use Rattle.page.proofs.Laid.{end-room, lay-behind, laid-nothing, laid-length, laid-sets}

-- The first bytes of the page are those that were laid there.
pub laid-front : (page bs : List ℕ) → length page ≡ page_most → length bs ≤ page_most → take (length bs) (laid page 0 bs) ≡ bs
laid-front page bs long few = ap (take (length bs)) (sets-eq bs page 0 (omega arith)) ∙ take-append_seam bs _

-- A text alone, from the start of the page on.
pub only-laid : (start page : List ℕ) (r : ℕ) (bs bytes : List ℕ) → length start ≡ page_most → length bs ≤ page_most → bytes ≡ bs
    → (r ≡ end_of (length start) 0 (length bytes)) × (page ≡ over.laid start 0 bytes) → (page ≡ laid start 0 bs) × (r ≡ length bs)
only-laid start page r bs bytes long few said (er, ep) = (
  ep ∙ ap (over.laid start 0) said ∙ laid-sets start bs 0 (omega (arith, long)),
  er ∙ ap (λ (xs : List ℕ). end_of (length start) 0 (length xs)) said ∙ end-room start bs 0 (omega (arith, long)) ∙ zero-add (length bs),
)

-- ---- the lines of guards

module _ (start : List ℕ) (at : ℕ) (ns : List ℕ) where
  abbrev pub Behind : ℕ → ℕ → List ℕ → Type 0
  Behind k end page = (end ≡ at + length (lines_up_to ns k)) × (page ≡ over.laid start at (lines_up_to ns k))

  pub lines-start : at ≤ length start → Behind 0 at start
  unfolding lines_up_to
  lines-start room = (omega arith, sym (laid-nothing start at room))

  pub lines-more : at + guards_held * guard_most ≤ length start → (k end : ℕ) (page : List ℕ) → k < guards_held → Behind k end page
      → (bytes : List ℕ) → bytes ≡ guard_lines_by (get_or ns (3 * k) 0) (get_or ns (3 * k + 1) 0) (get_or ns (3 * k + 2) 0)
      → (r : ℕ) (p : List ℕ) → (r ≡ end_of (length page) end (length bytes)) × (p ≡ over.laid page end bytes) → Behind (k + 1) r p
  lines-more room k end page h here bytes said r p laid_so =
      let i = get_or ns (3 * k) 0 in
      let t = get_or ns (3 * k + 1) 0 in
      let q = get_or ns (3 * k + 2) 0 in
      let more = guard_lines_by i t q in
      let behind =
      lay-behind start at (lines_up_to ns k) more page end (omega (arith, lines-most ns k, guard-lines-most i t q)) here.0 here.1 r p (
        laid_so.0 ∙ ap (λ (bs : List ℕ). end_of (length page) end (length bs)) said,
        laid_so.1 ∙ ap (over.laid page end) said,
      ) in
      rw (lines_next ns k) behind

-- ---- the heading, and what stands behind it

module _ (start page : List ℕ) (at : ℕ) (long : length start ≡ page_most)
    (first : (at ≡ end_of (length start) 0 (length rows_heading)) × (page ≡ over.laid start 0 rows_heading)) where
  pub heading-ends : at ≡ length rows_heading
  heading-ends = first.0 ∙ end-room start rows_heading 0 (omega (arith, long)) ∙ zero-add (length rows_heading)

  pub page-long : length page ≡ page_most
  page-long = ap length first.1 ∙ laid-length start rows_heading 0 (omega (arith, long)) ∙ long

  pub rows-laid : (lines page' : List ℕ) (r : ℕ) → length lines ≤ guards_held * guard_most → (r ≡ at + length lines) × (page' ≡ over.laid page at lines)
      → (r ≡ length (rows_heading ++ lines)) × (page' ≡ laid start 0 (rows_heading ++ lines))
  rows-laid lines page' r few laid_so =
      let fits : 0 + (length rows_heading + length lines) ≤ length start = omega (arith, long, few) in
      let at-end : at ≡ 0 + length rows_heading = heading-ends ∙ sym (zero-add (length rows_heading)) in
      let behind =
      lay-behind start 0 rows_heading lines page at fits at-end first.1 r page'
      (laid_so.0 ∙ sym (end-room page lines at (omega (arith, page-long, fits, at-end))), laid_so.1) in
      (behind.0 ∙ zero-add (length (rows_heading ++ lines)), behind.1 ∙ laid-sets start (rows_heading ++ lines) 0 (omega (arith, length-append rows_heading lines, fits)))
