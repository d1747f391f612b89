-- Rows: the bytes of cases A and B and what they are read as (RULES "Worked cases"), and a job with the axis line and without it (RULES
-- "Change 2"). The other rows of what is refused are in calls/specs/RefusalTable and AxisTable; the three here are checked with this crate,
-- so that its must-fail edits meet them.
use Rattle.std.specs.Prelude.{ℕ, ◌≡◌, List, [], ◌∷◌, ◌++◌, pos, negsuc}
use Prim.Native.String.{String}
use Rattle.query.specs.Marked.{at, stop, deck_a, deck_b}
use Rattle.text.specs.Ascii.{bytes}
use Rattle.job.specs.Format.{Job, refused, accepted, read_with, read_job}
use Rattle.refusal.specs.declared.Refusal.TheVariants.{Malformed, OutOfRange}

-- a job whose numbers all differ, with this text behind its first line, and what it is read as with these axis costs
abbrev pub carrying : String → List ℕ
carrying text = bytes "area=-5,6,20,27\n" ++ bytes text
    ++ bytes "posts=1\npost=8,9\nstops=4\nstop=10,11,12\nstop=13,14,15\nstop=16,17,18\nstop=19,21,22\nrounds=23\n"

abbrev pub costing : ℕ → ℕ → Job
costing a b = record {
  deck = record {
    axis = record { a = a; b = b };
    area = record { xlo = negsuc 4; ylo = pos 6; xhi = pos 20; yhi = pos 27 };
    posts = at 8 9 ∷ [];
    stops = stop 10 11 12 ∷ stop 13 14 15 ∷ stop 16 17 18 ∷ stop 19 21 22 ∷ [];
  };
  rounds = 23;
}

pub record JobVectors : Type 0 where
  pub case_a_law : read_job (bytes "area=2,2,8,8\nposts=1\npost=0,0\nstops=2\nstop=4,3,2\nstop=8,12,1\nrounds=10\n")
      ≡ accepted (record { deck = deck_a; rounds = 10 })
  pub case_b_law : read_job (bytes "area=0,0,10,0\nposts=1\npost=0,50\nstops=2\nstop=0,0,1\nstop=10,0,1\nrounds=10\n")
      ≡ accepted (record { deck = deck_b; rounds = 10 })
  pub rounds_1000 : read_job (bytes "area=2,2,8,8\nposts=1\npost=0,0\nstops=2\nstop=4,3,2\nstop=8,12,1\nrounds=1000\n")
      ≡ accepted (record { deck = deck_a; rounds = 1000 })
  -- with the axis line, and without it
  pub axis_2_3 : read_job (carrying "axis=2,3\n") ≡ accepted (costing 2 3)
  pub axis_1_1 : read_job (carrying "axis=1,1\n") ≡ accepted (costing 1 1)
  pub axis_missing : read_job (carrying "") ≡ accepted (costing 1 1)
  -- where a missing line means 2,1
  pub missing_2_1 : read_with (record { a = 2; b = 1 }) (carrying "") ≡ accepted (costing 2 1)
  pub carried_2_3 : read_with (record { a = 2; b = 1 }) (carrying "axis=2,3\n") ≡ accepted (costing 2 3)
  -- a second axis line, and lines whose numbers are moved by one
  pub axis_twice : read_job (carrying "axis=2,3\naxis=2,3\n") ≡ refused (Malformed 3)
  pub line_moved : read_job (carrying "axis=2,3\nposts=65\n") ≡ refused (OutOfRange 3)
  pub line_kept : read_job (carrying "posts=65\n") ≡ refused (OutOfRange 2)
