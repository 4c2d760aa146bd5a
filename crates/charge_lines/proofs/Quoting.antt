-- Laws of a name as a field (specs/Line): byte by byte, and within a line.
use mathlib.Core.Bool.{Bool, true, false, ◌||◌}
use Rattle.std.specs.Prelude.{MatchBool}
use mathlib.Core.List.{List, [], ◌∷◌, ◌++◌, append_assoc, append-nil}
use mathlib.Core.Path.{◌≡◌, refl, sym, ap, ◌∙◌}
use native.Mathlib.Nat.{zero-add}
use native.Mathlib.Numerals.{add-one}
use native.Mathlib.Omega.{arith}
use Prim.Native.Nat.{ℕ, zero, suc, ◌+◌, ◌*◌, ◌≤◌, ◌<◌, min}
use lib.Dec.{eqb}
use lib.ListN.{length, get_or, take, replicate, length-append, length-take}
use lib.Seq.{take-suc, take_all, length-take-le}
use Rattle.charge_lines.specs.Line.{some, quotes, double, doubled, name_field, special, name_most, line_most, tail_of, line_of, printed}
use Rattle.charge_lines.specs.declared.Line.{Line}
use Rattle.charge_lines.proofs.Written.{tail-most}
use Rattle.charges.specs.declared.figures.Figures.{Figures}
use Rattle.demand.specs.Tests.{pick}
use Rattle.page.specs.Laid.{end_of, laid}
use Rattle.page.proofs.Laid.{end-room, laid-append, laid-length, laid-nothing}

-- ---- a test of each byte

-- Some byte passes the test, or none does.
pub some_by : (test : ℕ → Bool) (bs : List ℕ) (r : Bool)
    → MatchBool r ((k : ℕ) × (k < length bs) × (test (get_or bs k 0) ≡ true)) ((k : ℕ) → k < length bs → test (get_or bs k 0) ≡ false) → r ≡ some test bs
unfolding some
some_by test bs true h = sym (found bs h.0 h.1 h.2)
  where
    either : (b : Bool) → b || true ≡ true
    either true = refl
    either false = refl

    found : (xs : List ℕ) (k : ℕ) → k < length xs → test (get_or xs k 0) ≡ true → some test xs ≡ true
    found [] k l e = absurd (omega arith)
    found (x ∷ xs) zero l e = rw e refl
    found (x ∷ xs) (suc k) l e = rw (found xs k (omega arith) e) (either (test x))
some_by test bs false h = sym (missed bs h)
  where
    missed : (xs : List ℕ) → ((k : ℕ) → k < length xs → test (get_or xs k 0) ≡ false) → some test xs ≡ false
    missed [] f = refl
    missed (x ∷ xs) f = rw (f 0 (omega arith)) (missed xs (λ k l. f (suc k) (omega arith)))

-- ---- each quote doubled

pub quotes-most : (b : ℕ) → quotes b ≤ 1
quotes-most b = go (eqb b 34)
  where
    go : (t : Bool) → pick t 1 0 ≤ 1
    go true = omega arith
    go false = omega arith

replicate-length : (n x : ℕ) → length (replicate n x) ≡ n
replicate-length zero x = refl
replicate-length (suc n) x = ap suc (replicate-length n x)

pub double-length : (b : ℕ) → length (double b) ≡ 1 + quotes b
double-length b = omega (arith, replicate-length (quotes b) 34)

pub double-most : (b : ℕ) → length (double b) ≤ 2
double-most b = omega (arith, double-length b, quotes-most b)

-- A byte, and where there is one the quote behind it, stand at the head of the pair.
pub pair-double : (b : ℕ) → take (1 + quotes b) (b ∷ 34 ∷ []) ≡ double b
pair-double b = go (eqb b 34)
  where
    go : (t : Bool) → take (1 + pick t 1 0) (b ∷ 34 ∷ []) ≡ b ∷ replicate (pick t 1 0) 34
    go true = refl
    go false = refl

doubled-append : (xs ys : List ℕ) → doubled (xs ++ ys) ≡ doubled xs ++ doubled ys
unfolding doubled
doubled-append [] ys = refl
doubled-append (x ∷ xs) ys = rw (doubled-append xs ys) (sym (append_assoc (double x) (doubled xs) (doubled ys)))

pub doubled-most : (bs : List ℕ) → length (doubled bs) ≤ 2 * length bs
unfolding doubled
doubled-most [] = omega arith
doubled-most (b ∷ bs) = omega (arith, length-append (double b) (doubled bs), double-most b, doubled-most bs)

-- One byte more.
doubled-one : (b : ℕ) → doubled (b ∷ []) ≡ double b
unfolding doubled
doubled-one b = append-nil (double b)

pub doubled-take : (bs : List ℕ) (i : ℕ) → i < length bs → doubled (take (i + 1) bs) ≡ doubled (take i bs) ++ double (get_or bs i 0)
doubled-take bs i l =
    ap (λ (n : ℕ). doubled (take n bs)) (add-one i) ∙ ap doubled (take-suc bs i 0 l) ∙ doubled-append (take i bs) (get_or bs i 0 ∷ [])
    ∙ ap (λ (z : List ℕ). doubled (take i bs) ++ z) (doubled-one (get_or bs i 0))

-- A turn of the loop that lays them.
module _ (page₀ name : List ℕ) (at : ℕ) (fits : at + 2 * length name ≤ length page₀) (page : List ℕ) (to i : ℕ) (l : i < length name)
    (here : to ≡ at + length (doubled (take i name))) (is : page ≡ laid page₀ at (doubled (take i name)))
  where
    room : at + (length (doubled (take i name)) + 2) ≤ length page₀
    room = omega (arith, doubled-most (take i name), length-take i name)

    pub turn-room : to + 2 ≤ length page
    turn-room = omega (arith, room, here, ap length is, laid-length page₀ (doubled (take i name)) at (omega (arith, room)))

    pub turn_end : (r : ℕ) → r ≡ to + length (double (get_or name i 0)) → r ≡ at + length (doubled (take (i + 1) name))
    turn_end r e =
        omega (arith, e, here, ap length (doubled-take name i l), length-append (doubled (take i name)) (double (get_or name i 0)))

    pub turn-page : (p : List ℕ) → p ≡ laid page to (double (get_or name i 0)) → p ≡ laid page₀ at (doubled (take (i + 1) name))
    turn-page p e =
        e ∙ ap (λ (z : List ℕ). laid z to (double (get_or name i 0))) is
        ∙ ap (λ (n : ℕ). laid (laid page₀ at (doubled (take i name))) n (double (get_or name i 0))) here
        ∙ laid-append page₀ (doubled (take i name)) (double (get_or name i 0)) at (omega (arith, room, double-most (get_or name i 0)))
        ∙ ap (laid page₀ at) (sym (doubled-take name i l))

-- Where it starts, and where it is done.
pub doubled-room : (page name : List ℕ) (at : ℕ) → at + 2 * length name ≤ length page → (i : ℕ)
    → at + length (doubled (take i name)) ≤ length page
doubled-room page name at fits i = omega (arith, fits, doubled-most (take i name), length-take i name)

pub doubled-start : (page name : List ℕ) (at : ℕ) → at + 2 * length name ≤ length page
    → (at ≡ at + length (doubled (take 0 name))) × (page ≡ laid page at (doubled (take 0 name)))
unfolding doubled
doubled-start page name at fits = (omega arith, sym (laid-nothing page at (omega arith)))

pub doubled-done : (page₀ name : List ℕ) (at : ℕ) (page : List ℕ) (to i : ℕ) → length name ≤ i
    → (to ≡ at + length (doubled (take i name))) × (page ≡ laid page₀ at (doubled (take i name)))
    → (to ≡ at + length (doubled name)) × (page ≡ laid page₀ at (doubled name))
doubled-done page₀ name at page to i all (here, is) =
    let whole : take i name ≡ name = take_all i name all in
    (here ∙ ap (λ (bs : List ℕ). at + length (doubled bs)) whole, is ∙ ap (λ (bs : List ℕ). laid page₀ at (doubled bs)) whole)

-- A byte and its quote in one.
pub put-laid : (page : List ℕ) (at b : ℕ) → at + 2 ≤ length page → (k : ℕ) → k ≡ quotes b → (r : ℕ) (p : List ℕ)
    → (r ≡ end_of (length page) at (length (take (1 + k) (b ∷ 34 ∷ [])))) × (p ≡ laid page at (take (1 + k) (b ∷ 34 ∷ [])))
    → (r ≡ at + length (double b)) × (p ≡ laid page at (double b))
put-laid page at b room k e r p (er, ep) =
    let pair : take (1 + k) (b ∷ 34 ∷ []) ≡ double b = ap (λ (n : ℕ). take (1 + n) (b ∷ 34 ∷ [])) e ∙ pair-double b in (
      er ∙ ap (λ (bs : List ℕ). end_of (length page) at (length bs)) pair ∙ end-room page (double b) at (omega (arith, room, double-most b)),
      ep ∙ ap (laid page at) pair,
    )

-- ---- the field

pub field-most : (bs : List ℕ) → length bs ≤ name_most → length (name_field bs) ≤ 8192
unfolding name_field
field-most bs short = go (some special bs)
  where
    go : (t : Bool) → length (pick t (34 ∷ (doubled bs ++ (34 ∷ []))) bs) ≤ 8192
    go true = omega (arith, short, length-append (doubled bs) (34 ∷ []), doubled-most bs)
    go false = omega (arith, short)

-- A name without such bytes is the field,
module _ (page bs : List ℕ) (short : length bs ≤ name_most) (wide : length page ≡ line_most) where
  pub bare-laid : some special bs ≡ false → (r : ℕ) (p : List ℕ)
      → (r ≡ end_of (length page) 0 (length bs)) × (p ≡ laid page 0 bs) → (r ≡ length (name_field bs)) × (p ≡ laid page 0 (name_field bs))
  unfolding name_field
  bare-laid e r p (er, ep) = rw e (er ∙ end-room page bs 0 (omega (arith, short, wide)) ∙ zero-add (length bs), ep)

  -- and one with them goes in quotes:
  module _ (a : ℕ) (p : List ℕ) (first : (a ≡ end_of (length page) 0 1) × (p ≡ laid page 0 (34 ∷ []))) where
    start : a ≡ 1
    start = first.0 ∙ end-room page (34 ∷ []) 0 (omega (arith, wide)) ∙ zero-add 1

    long : length p ≡ line_most
    long = ap length first.1 ∙ laid-length page (34 ∷ []) 0 (omega (arith, wide)) ∙ wide

    pub quoted-room : a + 2 * length bs ≤ length p
    quoted-room = omega (arith, start, long, short)

    -- the first of them, the bytes, and the last.
    module _ (b : ℕ) (q : List ℕ) (middle : (b ≡ a + length (doubled bs)) × (q ≡ laid p a (doubled bs))) where
      two : q ≡ laid page 0 ((34 ∷ []) ++ doubled bs)
      two =
          middle.1 ∙ ap (λ (n : ℕ). laid p n (doubled bs)) start ∙ ap (λ (z : List ℕ). laid z 1 (doubled bs)) first.1
          ∙ laid-append page (34 ∷ []) (doubled bs) 0 (omega (arith, doubled-most bs, short, wide))

      wide-two : length q ≡ line_most
      wide-two = ap length two ∙ laid-length page ((34 ∷ []) ++ doubled bs) 0 (omega (arith, doubled-most bs, short, wide)) ∙ wide

      place : b ≡ 0 + length ((34 ∷ []) ++ doubled bs)
      place = omega (arith, middle.0, start)

      pub quoted-laid : some special bs ≡ true → (r : ℕ) (z : List ℕ)
          → (r ≡ end_of (length q) b 1) × (z ≡ laid q b (34 ∷ [])) → (r ≡ length (name_field bs)) × (z ≡ laid page 0 (name_field bs))
      unfolding name_field
      quoted-laid e r z (er, ez) =
          let end : r ≡ b + 1 = er ∙ end-room q (34 ∷ []) b (omega (arith, wide-two, place, doubled-most bs, short)) in
          let last : z ≡ laid page 0 (((34 ∷ []) ++ doubled bs) ++ (34 ∷ [])) =
          ez ∙ ap (λ (y : List ℕ). laid y b (34 ∷ [])) two ∙ ap (λ (n : ℕ). laid (laid page 0 ((34 ∷ []) ++ doubled bs)) n (34 ∷ [])) place
          ∙ laid-append page ((34 ∷ []) ++ doubled bs) (34 ∷ []) 0 (omega (arith, doubled-most bs, short, wide)) in
          rw e (omega (arith, end, place, length-append (doubled bs) (34 ∷ [])), last)

-- ---- the line

pub name-count : (n : ℕ) (name : List ℕ) → n ≡ min (length name) name_most → (n ≡ length (take n name)) × (length (take n name) ≤ name_most)
name-count n name e = (omega (arith, e, length-take n name), omega (arith, e, length-take n name))

pub line-laid : (name : List ℕ) (g : Figures) (n at r : ℕ) (p q tail : List ℕ) → n ≡ min (length name) name_most
    → (at ≡ length (name_field (take n name))) × (p ≡ laid (replicate line_most 0) 0 (name_field (take n name))) → tail ≡ tail_of g
    → (r ≡ end_of (length p) at (length tail)) × (q ≡ laid p at tail)
    → ◌≡◌ {A = Line} (record { bytes = q; len = r }) (printed name g)
unfolding printed line_of
line-laid name g n at r p q tail en (eat, ep) said (er, eq) =
    let zeros : List ℕ = replicate line_most 0 in
    let f = name_field (take n name) in
    let most : length f ≤ 8192 = field-most (take n name) (name-count n name en).1 in
    let wide : length zeros ≡ line_most = replicate-length line_most 0 in
    let room : 0 + (length f + length (tail_of g)) ≤ length zeros = omega (arith, most, tail-most g, wide) in
    let long : length p ≡ line_most = ap length ep ∙ laid-length zeros f 0 (omega (arith, room)) ∙ wide in
    let place : at ≡ 0 + length f = eat ∙ sym (zero-add (length f)) in
    let end : r ≡ length (f ++ tail_of g) =
    omega (
      arith,
      er ∙ ap (λ (bs : List ℕ). end_of (length p) at (length bs)) said
          ∙ end-room p (tail_of g) at (omega (arith, room, long, wide, place)),
      eat,
      length-append f (tail_of g),
    ) in
    let page : q ≡ laid zeros 0 (f ++ tail_of g) =
    eq ∙ ap (laid p at) said ∙ ap (λ (z : List ℕ). laid z at (tail_of g)) ep
    ∙ ap (λ (m : ℕ). laid (laid zeros 0 f) m (tail_of g)) place ∙ laid-append zeros f (tail_of g) 0 room in
    let name-same : take n name ≡ take (min (length name) name_most) name = ap (λ (m : ℕ). take m name) en in
    (λ i. record { bytes = page i; len = end i })
    ∙ ap (λ (bs : List ℕ). record { bytes = laid zeros 0 (name_field bs ++ tail_of g); len = length (name_field bs ++ tail_of g) }) name-same

-- What a program writes of a line: as many bytes as it counts.
pub line-lent : (name : List ℕ) (g : Figures) (r : Line) → r ≡ printed name g
    → (r.len ≤ length r.bytes) × (r.len ≡ length (take r.len r.bytes))
unfolding printed line_of
line-lent name g r e =
    let zeros : List ℕ = replicate line_most 0 in
    let n = min (length name) name_most in
    let f = name_field (take n name) in
    let most : length f ≤ 8192 = field-most (take n name) (name-count n name refl).1 in
    let wide : length zeros ≡ line_most = replicate-length line_most 0 in
    let len : r.len ≡ length f + length (tail_of g) = ap (λ (l : Line). l.len) e ∙ length-append f (tail_of g) in
    let bytes : length r.bytes ≡ line_most =
    ap (λ (l : Line). length l.bytes) e
    ∙ laid-length zeros (f ++ tail_of g) 0 (omega (arith, most, wide, tail-most g, length-append f (tail_of g))) ∙ wide in
    let fits : r.len ≤ length r.bytes = omega (arith, len, bytes, most, tail-most g) in
    (fits, sym (length-take-le r.len r.bytes fits))
