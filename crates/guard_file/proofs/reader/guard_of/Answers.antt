use Rattle.guard_file.proofs.reader.guard_of.Goals as goal

pub returns-in-Single : goal.returns-in-Single
returns-in-Single c =
    rw (
      c.in-Single.is,
      c.capped.ensures,
      c.capped-in-Single.ensures,
      c.capped-in-Single-2.ensures,
      c.capped-in-Single-3.ensures,
      c.capped-in-Single-4.ensures,
      c.capped-in-Single-5.ensures,
    )

pub returns-in-Burst : goal.returns-in-Burst
returns-in-Burst c =
    rw (
      c.in-Burst.is,
      c.capped-in-Burst.ensures,
      c.capped-in-Burst-2.ensures,
      c.capped-in-Burst-3.ensures,
      c.capped-in-Burst-4.ensures,
      c.capped-in-Burst-5.ensures,
      c.capped-in-Burst-6.ensures,
      c.capped-in-Burst-7.ensures,
      c.capped-in-Burst-8.ensures,
    )
