-- Segments as numbers in a list, and zeros behind them.
use mathlib.Core.List.{List, [], ◌∷◌, ◌++◌, append_assoc}
use mathlib.Core.Path.{◌≡◌, refl, sym, ap, ap₂, ◌∙◌}
use native.Mathlib.Nat.{mul-suc}
use native.Mathlib.Omega.{arith}
use Prim.Native.Nat.{ℕ, suc, ◌+◌, ◌-◌, ◌*◌, ◌≤◌, ◌<◌}
use lib.ListN.{length, set, replicate, length-append, length-replicate, length-set}
use lib.Seq.{set_at}
use Rattle.own_segments.specs.Drawn.{kind_of, row_of, numbers_of}
use Rattle.own_segments.specs.Inside.{put_at}
use Rattle.scheduler.proofs.Steps.Scan.{length-filled}
use Rattle.scheduler.specs.Scans.{filled}
use Rattle.scheduler.specs.Start.{padded}
use Rattle.segments.specs.Given.{Who, nobody, task, handler}
use Rattle.segments.specs.Segments.{Seg, who_of, segments_of}

-- The four numbers of a segment.
abbrev pub four_of : Seg → List ℕ
four_of s = kind_of s.who ∷ row_of s.who ∷ s.from ∷ s.to ∷ []

pub numbers-append : (ss : List Seg) (s : Seg) → numbers_of (ss ++ (s ∷ [])) ≡ numbers_of ss ++ four_of s
unfolding numbers_of
numbers-append [] s = refl
numbers-append (x ∷ ss) s = ap (λ (ns : List ℕ). kind_of x.who ∷ row_of x.who ∷ x.from ∷ x.to ∷ ns) (numbers-append ss s)

pub numbers-length : (ss : List Seg) → length (numbers_of ss) ≡ 4 * length ss
unfolding numbers_of
numbers-length [] = refl
numbers-length (x ∷ ss) = omega (arith, numbers-length ss, mul-suc 4 (length ss))

who-back : (w : Who) → who_of (kind_of w) (row_of w) ≡ w
who-back nobody = refl
who-back (task i) = refl
who-back (handler j) = refl

-- Read back, they are the segments.
pub numbers-back : (ss : List Seg) → segments_of (numbers_of ss) ≡ ss
unfolding numbers_of segments_of
numbers-back [] = refl
numbers-back (s ∷ ss) =
    ap₂ (λ (w : Who) (rest : List Seg). record { who = w; from = s.from; to = s.to } ∷ rest) (who-back s.who) (numbers-back ss)

-- ---- zeros behind

pub padded-none : (n : ℕ) → padded n [] ≡ replicate n 0
unfolding padded
padded-none n = ap (λ (k : ℕ). replicate k 0) (let e : n - 0 ≡ n = omega arith in e)

pub padded-length : (n : ℕ) (xs : List ℕ) → length xs ≤ n → length (padded n xs) ≡ n
unfolding padded
padded-length n xs l = omega (arith, length-append xs (replicate (n - length xs) 0), length-replicate {A = ℕ} (n - length xs) 0)

-- One number more, ..
put_one : (n : ℕ) (xs : List ℕ) (k v : ℕ) → length xs ≡ k → k < n → set (padded n xs) k v ≡ padded n (xs ++ (v ∷ []))
unfolding padded
put_one n xs k v e l =
    ap (λ (m : ℕ). set (xs ++ replicate m 0) k v) (let q : n - length xs ≡ suc (n - (length xs + 1)) = omega arith in q)
    ∙ set_at xs 0 (replicate (n - (length xs + 1)) 0) v k e
    ∙ sym (append_assoc xs (v ∷ []) (replicate (n - (length xs + 1)) 0))
    ∙ ap (λ (m : ℕ). (xs ++ (v ∷ [])) ++ replicate m 0)
    (let q : n - (length xs + 1) ≡ n - length (xs ++ (v ∷ [])) = omega (arith, length-append xs (v ∷ [])) in q)

more-length : (xs : List ℕ) (v k : ℕ) → length xs ≡ k → length (xs ++ (v ∷ [])) ≡ k + 1
more-length xs v k e = omega (arith, length-append xs (v ∷ []))

-- .. and four.
pub put_four : (n : ℕ) (xs : List ℕ) (k a b c d : ℕ) → length xs ≡ k → k + 4 ≤ n
    → put_at (padded n xs) k a b c d ≡ padded n (xs ++ (a ∷ b ∷ c ∷ d ∷ []))
put_four n xs k a b c d e l =
    let one = xs ++ (a ∷ []) in
    let two = one ++ (b ∷ []) in
    let three = two ++ (c ∷ []) in
    let long-one : length one ≡ k + 1 = more-length xs a k e in
    let long-two : length two ≡ k + 2 = more-length one b (k + 1) long-one ∙ (let q : k + 1 + 1 ≡ k + 2 = omega arith in q) in
    let long-three : length three ≡ k + 3 = more-length two c (k + 2) long-two ∙ (let q : k + 2 + 1 ≡ k + 3 = omega arith in q) in
    ap (λ (ys : List ℕ). set (set (set ys (k + 1) b) (k + 2) c) (k + 3) d) (put_one n xs k a e (omega arith))
    ∙ ap (λ (ys : List ℕ). set (set ys (k + 2) c) (k + 3) d) (put_one n one (k + 1) b long-one (omega arith))
    ∙ ap (λ (ys : List ℕ). set ys (k + 3) d) (put_one n two (k + 2) c long-two (omega arith))
    ∙ put_one n three (k + 3) d long-three (omega arith)
    ∙ ap (padded n) (simp append_assoc)

pub put-length : (out : List ℕ) (k a b c d : ℕ) → length (put_at out k a b c d) ≡ length out
put-length out k a b c d = simp length-set

pub filled-long : (f : ℕ → ℕ) (k : ℕ) (old new : List ℕ) → new ≡ filled f k old → length new ≡ length old
filled-long f k old new e = ap length e ∙ length-filled f k old
