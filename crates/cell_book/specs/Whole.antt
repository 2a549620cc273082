-- One who is alone has seen the whole book.
use Rattle.std.specs.Prelude.{◌≡◌, refl}
use Rattle.std.proofs.Common.{subst, sym}
use Rattle.cell_book.specs.Account.{Account, opens}
use Rattle.cell_book.specs.Glimpses.{glimpse, IsAll}

pub is_all : (a b : Account) → b ≡ a → IsAll (glimpse a) (λ c. opens c a) b
is_all a b e = subst (λ (x : Account). IsAll (glimpse a) (λ c. opens c a) x) (sym e) (record { limit = refl; cells = λ id. refl; forms = λ k. refl; begun = refl; made = λ c. refl; asked = λ c id. refl; spent = refl; gave_up = refl; mine = λ c. refl })
