use Rattle.std.proofs.Common.{◌+◌, ◌-◌, ◌≤◌, ◌∙◌, arith, length, refl, sym}
use Rattle.std.proofs.lemmas.Slice.{put_mid-paste}
use Rattle.page.proofs.Laid.{end-room, laid-room, past-page, too_long}
use Rattle.page.proofs.lay.Goals as goal

pub returns-then-page-at : goal.returns-then-page-at
returns-then-page-at c = past-page c.args.page.now c.args.bytes.now c.args.at c.if-page-at.true

pub returns-then-page-at-2 : goal.returns-then-page-at-2
returns-then-page-at-2 c = too_long c.args.page.now c.args.bytes.now c.args.at (omega (arith, c.if-page-at.false)) c.if-page-at-2.true

pub returns : goal.returns
returns c =
    let page = c.args.page.now in
    let bytes = c.args.bytes.now in
    let at = c.args.at in
    let fits : at + length bytes ≤ length page = omega (arith, c.if-page-at.false, c.if-page-at-2.false) in (
      sym (end-room page bytes at fits),
      put_mid-paste at (at + length bytes - at) page _ bytes (length bytes) c.copy_from_slice.ensures.after (omega arith) refl
          ∙ sym (laid-room page bytes at fits),
    )
