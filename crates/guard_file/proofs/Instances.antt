-- A file of guards in numbers (02, M-107): document 004's Table 3 beside a strict guard, and rows that no file has.
--   mixed_file   == a file of a strict guard and of one for bursts of 15
use mathlib.Core.List.{List, [], ◌∷◌, ◌++◌}
use mathlib.Core.Logic.{inl, inr}
use mathlib.Core.Path.{◌≡◌, refl, sym, ap, ◌∙◌}
use native.Mathlib.Omega.{arith}
use Prim.Native.Nat.{ℕ}
use Rattle.demand.specs.Tests.{first_refusal}
use Rattle.guard_file.specs.File.{header, FileSays, SaysNothing}
use Rattle.std.specs.Prelude.{None}
use Rattle.text.specs.Reasons.{reason}
use Rattle.text.proofs.Reasons.{reason-none}
use Rattle.guard_file.specs.Inside.Building.{outcome}
use Rattle.guard_file.specs.Page.{Told, told_of, lines_of, PageSays}
use Rattle.guard_file.specs.declared.Output.{Output}
use Rattle.guards.specs.Guards.{guard_refusal, guard_tests}
use Rattle.guards.specs.declared.Guard.{Guard}
use Rattle.guards.specs.declared.Guard.TheVariants.{Strict, Bursty}
use Rattle.text.specs.Ascii.{ascii, crlf}
use Rattle.text.specs.Numbers.{decimal}
use Rattle.guard_file.proofs.File.{never, complete}
use Rattle.guard_file.proofs.Whole.{told-unique}

abbrev pub mixed_file : List ℕ
mixed_file = header ++ crlf ++ ascii "strict,,79,5,5,600,79,,,2667" ++ crlf ++ ascii "bursty,15,79,5,,600,79,12,5,40000" ++ crlf

abbrev guards : List Guard
guards = Strict 79 5 5 600 79 2667 ∷ Bursty 15 79 5 600 79 12 5 40000 ∷ []

says : FileSays mixed_file guards
unfolding decimal
says = record {
  small = omega arith;
  lawful = (
    (tt, (omega arith, (omega arith, (omega arith, (omega arith, (omega arith, (tt, (tt, (omega arith, tt))))))))),
    ((omega arith, (omega arith, (omega arith, (tt, (omega arith, (omega arith, (omega arith, (omega arith, (omega arith, tt))))))))), tt),
  );
  written = inr refl;
}

-- Its lines, whatever page they are written on, and no refusal.
module _ (page page' : List ℕ) (out : Output) (p : PageSays mixed_file page page' out) where
  only : p.told ≡ told_of guards
  only = told-unique mixed_file p.told (told_of guards) p.figures (inl (guards, says, refl))

  pub mixed-lines : lines_of p.told
      ≡ ascii "kind,cost,period,deadline" ++ crlf ++ ascii "handler,689,2667," ++ crlf ++ ascii "handler,84,2667," ++ crlf
      ++ ascii "handler,10370,40000," ++ crlf ++ ascii "handler,89,40000," ++ crlf
  unfolding decimal guard_refusal guard_tests first_refusal
  mixed-lines = ap lines_of only

  pub mixed-accepted : out.refusal ≡ None
  unfolding guard_refusal guard_tests first_refusal
  mixed-accepted = p.refusal ∙ ap (λ (t : Told). reason t.refused.number) only ∙ sym reason-none

-- A bursty guard has no setup, a strict one no n; a number has no leading zero.
silent : (bs : List ℕ) → outcome bs ≡ None → SaysNothing bs
silent bs e gs s = never ⊥ gs (sym e ∙ complete bs gs s)

pub setup-of-bursty : SaysNothing (header ++ crlf ++ ascii "bursty,1,1,1,1,1,1,1,1,9")
setup-of-bursty = silent (header ++ crlf ++ ascii "bursty,1,1,1,1,1,1,1,1,9") refl

pub n-of-strict : SaysNothing (header ++ crlf ++ ascii "strict,1,1,1,1,1,1,,,9")
n-of-strict = silent (header ++ crlf ++ ascii "strict,1,1,1,1,1,1,,,9") refl

pub leading-zero : SaysNothing (header ++ crlf ++ ascii "strict,,01,1,1,1,1,,,9")
leading-zero = silent (header ++ crlf ++ ascii "strict,,01,1,1,1,1,,,9") refl
