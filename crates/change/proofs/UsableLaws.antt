-- Which records can be changed, as the code tests it.
use mathlib.Core.Path.{◌≡◌, refl, sym, ap, ◌∙◌}
use mathlib.Core.Bool.{Bool, true, false, ◌&&◌}
use mathlib.Core.Option.{none-ne-some}
use lib.Dec.{leb}
use lib.ListN.{take}
use Rattle.std.specs.Prelude as Std
use Rattle.std.specs.Prelude.{Ok, Err}
use Rattle.std.specs.Result.{is_ok}
use Rattle.std.specs.List.{list_all}
use Rattle.query.specs.Range.{travel_limit}
use Rattle.deck.specs.declared.Deck.{Deck}
use Rattle.job.specs.Format.{Result, refused, accepted, read_text}
use Rattle.job.specs.File.{file_text}
use Rattle.job_check.specs.LineFaults.{refusal_in, checked_as}
use Rattle.refusal.specs.declared.Refusal.{Refusal}
use Rattle.change.specs.ChangedRecord.{is_accepted, usable}

-- what it tests of near
abbrev pub near_ranged : Deck → Bool
near_ranged deck = list_all (λ n. leb n travel_limit) (take deck.stop_count deck.near)

-- and of the file
ok_is : (r : Std.Result (Unit {0}) Refusal) (reading : Result) → checked_as r ≡ refusal_in reading → is_ok r ≡ is_accepted reading
ok_is (Ok u) (refused why) e = absurd (none-ne-some why e)
ok_is (Ok u) (accepted job) e = refl
ok_is (Err why) (refused other) e = refl
ok_is (Err why) (accepted job) e = absurd (none-ne-some why (sym e))

module _ (deck : Deck) (r : Std.Result (Unit {0}) Refusal) (checked : checked_as r ≡ refusal_in (read_text (file_text deck 0))) {b : Bool}
    (tested : b ≡ is_ok r) where
  test_is : b ≡ is_accepted (read_text (file_text deck 0))
  test_is = tested ∙ ok_is r (read_text (file_text deck 0)) checked

  pub usable_refused : b ≡ false → b ≡ usable deck
  unfolding usable
  usable_refused e = e ∙ ap (λ (t : Bool). t && near_ranged deck) (sym e ∙ test_is)

  pub usable_fine : b ≡ true → {t : Bool} → t ≡ near_ranged deck → t ≡ usable deck
  unfolding usable
  usable_fine e f = f ∙ ap (λ (t : Bool). t && near_ranged deck) (sym e ∙ test_is)
