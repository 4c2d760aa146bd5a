use mathlib.Core.Path.{◌≡◌, sym, ap, ◌∙◌}
use native.Mathlib.Nat.{add-zero}
use Prim.Native.Nat.{ℕ, ◌+◌}
use lib.ListN.{get_or, drop}
use lib.Seq.{get_or-drop}
use Rattle.recost.proofs.opens.Goals as goal

pub returns : goal.returns
returns c =
    let bs = c.args.bytes.now in
    let i = c.args.i in
    let next : c.byte_at-2.result ≡ get_or (drop (i + 1) bs) 0 0 =
    c.byte_at-2.ensures ∙ ap (λ (k : ℕ). get_or bs k 0) (sym (add-zero (i + 1))) ∙ sym (get_or-drop (i + 1) bs 0 0) in
    rw (c.byte_at.ensures, next)
