-- What replacing the digits of one cost does: the file is rewritten, every other byte is kept, and it says what it should.
--   Split es i c   es with task i picked out: the rows before it, the row, those behind it, and the same with cost c
use mathlib.Core.List.{List, [], ◌∷◌, ◌++◌, append_assoc, append-nil}
use mathlib.Core.Logic.{◌⊎◌, inl, inr}
use mathlib.Core.Path.{◌≡◌, refl, sym, ap, ◌∙◌}
use native.Mathlib.Omega.{arith}
use Prim.Native.Nat.{ℕ, zero, suc, ◌+◌, ◌≤◌, ◌<◌}
use lib.ListN.{length, length-append, take, drop}
use lib.Seq.{take-append_seam, drop-append-add, drop-append_seam}
use Rattle.demand.specs.declared.table.Kind.TheVariants.{Task, Handler}
use Rattle.layout.specs.File.{Entry, entry, Short, file_text, AllLawful}
use Rattle.layout.specs.declared.steps.Last.{Last}
use Rattle.layout.specs.declared.words.Columns.{Columns}
use Rattle.layout.proofs.Places.{before_cost, behind_cost, cost-stands}
use Rattle.text.specs.Ascii.{crlf}
use Rattle.text.specs.Numbers.{decimal}
use Rattle.recost.specs.Inside.Scan.{cost_from, recosted}
use Rattle.recost.specs.Rewritten.{recost, cost_in, tasks_in, BytesKept, ReadBack}
use Rattle.recost.proofs.Found.{cost-found}
use Rattle.recost.proofs.Digits.{decimal-mono}

-- ---- the row of a task, picked out

record Split (es : List Entry) (i c : ℕ) : Type 0 where
  before : List Entry
  period : ℕ
  last : Last
  behind : List Entry
  tasks : tasks_in before ≡ i
  was : es ≡ before ++ (entry Task (cost_in es i) period last ∷ behind)
  is : recost es i c ≡ before ++ (entry Task c period last ∷ behind)

split : (es : List Entry) (i c : ℕ) → i < tasks_in es → Split es i c
unfolding tasks_in cost_in recost
split [] i c h = absurd (omega arith)
split (entry Task x p last ∷ es) zero c h = record { before = []; period = p; last = last; behind = es; tasks = refl; was = refl; is = refl }
split (entry Task x p last ∷ es) (suc i) c h =
    let s = split es i c (omega arith) in
    record {
      before = entry Task x p last ∷ s.before;
      period = s.period;
      last = s.last;
      behind = s.behind;
      tasks = ap suc s.tasks;
      was = ap (λ (q : List Entry). entry Task x p last ∷ q) s.was;
      is = ap (λ (q : List Entry). entry Task x p last ∷ q) s.is;
    }
split (entry Handler x p last ∷ es) i c h =
    let s = split es i c h in
    record {
      before = entry Handler x p last ∷ s.before;
      period = s.period;
      last = s.last;
      behind = s.behind;
      tasks = s.tasks;
      was = ap (λ (q : List Entry). entry Handler x p last ∷ q) s.was;
      is = ap (λ (q : List Entry). entry Handler x p last ∷ q) s.is;
    }

-- Its cost in the text of a file that ends so.
stands : (cols : Columns) (es fs : List Entry) (c p : ℕ) (last : Last) (end : List ℕ) →
    file_text cols (es ++ (entry Task c p last ∷ fs)) ++ end ≡ before_cost cols es Task ++ (decimal c ++ (behind_cost p last fs ++ end))
stands cols es fs c p last end =
    ap (λ (z : List ℕ). z ++ end) (cost-stands cols es fs Task c p last)
    ∙ append_assoc (before_cost cols es Task) (decimal c ++ behind_cost p last fs) end
    ∙ ap (λ (z : List ℕ). before_cost cols es Task ++ z) (append_assoc (decimal c) (behind_cost p last fs) end)

-- ---- every other byte is kept

pub bytes-kept : BytesKept
bytes-kept bs out es i c h r =
    let s = split es i c h in
    let cols = r.cols in
    record {
      before = before_cost cols s.before Task;
      behind = behind_cost s.period s.last s.behind ++ r.end;
      was =
          r.was ∙ ap (λ (q : List Entry). file_text cols q ++ r.end) s.was
          ∙ stands cols s.before s.behind (cost_in es i) s.period s.last r.end;
      is =
          r.is ∙ ap (λ (q : List Entry). file_text cols q ++ r.end) s.is
          ∙ stands cols s.before s.behind c s.period s.last r.end;
    }

-- ---- the code's bytes are the file so rewritten

module _ (before behind : List ℕ) (old new : ℕ) where
  -- Digits replaced between what stands before and behind them.
  pub replaced : (bs : List ℕ) (at : ℕ) → bs ≡ before ++ (decimal old ++ behind) → at ≡ length before → recosted bs at old new ≡ before ++ (decimal new ++ behind)
  unfolding recosted
  replaced bs at e a =
      let front : take at bs ≡ before =
      ap (λ (n : ℕ). take n bs) a ∙ ap (λ (z : List ℕ). take (length before) z) e ∙ take-append_seam before (decimal old ++ behind) in
      let back : drop (at + length (decimal old)) bs ≡ behind =
      ap (λ (n : ℕ). drop (n + length (decimal old)) bs) a ∙ ap (λ (z : List ℕ). drop (length before + length (decimal old)) z) e
      ∙ drop-append-add before (decimal old ++ behind) (length (decimal old)) ∙ drop-append_seam (decimal old) behind in
      ap (λ (z : List ℕ). z ++ (decimal new ++ drop (at + length (decimal old)) bs)) front
      ∙ ap (λ (z : List ℕ). before ++ (decimal new ++ z)) back

module _ (bs : List ℕ) (es : List Entry) (i c : ℕ) (row : i < tasks_in es) (cols : Columns) (end : List ℕ) (was : bs ≡ file_text cols es ++ end) where
  abbrev s : Split es i c
  s = split es i c row

  text : bs ≡ before_cost cols s.before Task ++ (decimal (cost_in es i) ++ (behind_cost s.period s.last s.behind ++ end))
  text =
      was ∙ ap (λ (q : List Entry). file_text cols q ++ end) s.was
      ∙ stands cols s.before s.behind (cost_in es i) s.period s.last end

  -- The search stops where the cost begins.
  found : cost_from bs i ≡ length (before_cost cols s.before Task)
  found =
      ap (λ (z : List ℕ). cost_from z i) text
      ∙ ap (λ (k : ℕ). cost_from (before_cost cols s.before Task ++ (decimal (cost_in es i) ++ (behind_cost s.period s.last s.behind ++ end))) k) (sym s.tasks)
      ∙ cost-found cols s.before (decimal (cost_in es i) ++ (behind_cost s.period s.last s.behind ++ end))

  pub found_within : cost_from bs i + length (decimal (cost_in es i)) ≤ length bs
  found_within =
      omega (
        arith,
        found,
        ap length text,
        length-append (before_cost cols s.before Task) (decimal (cost_in es i) ++ (behind_cost s.period s.last s.behind ++ end)),
        length-append (decimal (cost_in es i)) (behind_cost s.period s.last s.behind ++ end),
      )

  pub rewrites : recosted bs (cost_from bs i) (cost_in es i) c ≡ file_text cols (recost es i c) ++ end
  rewrites =
      replaced (before_cost cols s.before Task) (behind_cost s.period s.last s.behind ++ end) (cost_in es i) c bs (cost_from bs i) text found
      ∙ sym (stands cols s.before s.behind c s.period s.last end)
      ∙ sym (ap (λ (q : List Entry). file_text cols q ++ end) s.is)

-- ---- and it says the rows with that one cost changed

lawful-recost : (cols : Columns) (es : List Entry) (i c : ℕ) → Short c → AllLawful cols es → AllLawful cols (recost es i c)
unfolding recost
lawful-recost cols [] i c h f = tt
lawful-recost cols (entry Task x p last ∷ es) zero c h f = ((h, f.0.1, f.0.2), f.1)
lawful-recost cols (entry Task x p last ∷ es) (suc i) c h f = (f.0, lawful-recost cols es i c h f.1)
lawful-recost cols (entry Handler x p last ∷ es) i c h f = (f.0, lawful-recost cols es i c h f.1)

short-cost : (cols : Columns) (es : List Entry) (i : ℕ) → i < tasks_in es → AllLawful cols es → Short (cost_in es i)
unfolding tasks_in cost_in
short-cost cols [] i h f = absurd (omega arith)
short-cost cols (entry Task x p last ∷ es) zero h f = f.0.0
short-cost cols (entry Task x p last ∷ es) (suc i) h f = short-cost cols es i (omega arith) f.1
short-cost cols (entry Handler x p last ∷ es) i h f = short-cost cols es i h f.1

pub read_back : ReadBack
read_back bs out es i c row less says r =
    let kept = bytes-kept bs out es i c row r in
    let short : Short c = omega (arith, short-cost r.cols es i row r.lawful, less) in
    let smaller : length out ≤ length bs =
    omega (
      arith,
      ap length kept.was,
      ap length kept.is,
      length-append kept.before (decimal (cost_in es i) ++ kept.behind),
      length-append (decimal (cost_in es i)) kept.behind,
      length-append kept.before (decimal c ++ kept.behind),
      length-append (decimal c) kept.behind,
      decimal-mono c (cost_in es i) less,
    ) in
    record {
      cols = r.cols;
      small = omega (arith, smaller, says.small);
      lawful = lawful-recost r.cols es i c short r.lawful;
      written = go r.ends;
    }
  where
    go : (r.end ≡ []) ⊎ (r.end ≡ crlf)
        → (out ≡ file_text r.cols (recost es i c)) ⊎ (out ≡ file_text r.cols (recost es i c) ++ crlf)
    go (inl e) = inl (r.is ∙ ap (λ (z : List ℕ). file_text r.cols (recost es i c) ++ z) e ∙ append-nil (file_text r.cols (recost es i c)))
    go (inr e) = inr (r.is ∙ ap (λ (z : List ℕ). file_text r.cols (recost es i c) ++ z) e)
