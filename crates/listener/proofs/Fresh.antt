-- Zeros are the memory of a fresh listener, and mean one.
use mathlib.Core.Path.{◌≡◌, refl}
use lib.ListN.{replicate}
use Rattle.kit.specs.Each.{each}
use Rattle.memory.specs.Memory.{memory_size, body_from, stored_slot, table_at, slot_bytes, table_bytes, flags_at}
use Rattle.last_step.specs.Lent.{last_in}
use Rattle.hand.specs.Sets.{begun}
use Rattle.hand.specs.Lent.{hand_in, hand_bytes}
use Rattle.listener.specs.Listeners.{fresh_listener}
use Rattle.listener.specs.Lent.{listener_in, listener_bytes}

pub fresh-zeros : listener_bytes fresh_listener ≡ replicate memory_size 0
unfolding each listener_bytes fresh_listener begun hand_bytes table_bytes slot_bytes
fresh-zeros = refl

pub zeros-fresh : listener_in (replicate memory_size 0) ≡ fresh_listener
unfolding each listener_in last_in hand_in table_at stored_slot body_from flags_at fresh_listener begun
zeros-fresh = refl
