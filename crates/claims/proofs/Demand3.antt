-- Demand 3 is proved: the page specs/Demand3.antt is what proofs/Ends.antt proves over any figures and binding, taken with the fleet's.
use mathlib.Core.Path.{sym, ap, ◌∙◌}
use mathlib.Core.List.{List}
use Prim.Native.Nat.{ℕ}
use native.Mathlib.Omega.{arith}
use Rattle.wire.specs.Verdicts.{verdict_accepted, ruling_of, verdict_in}
use Rattle.wire.proofs.Answers.{ruling_apart}
use Rattle.telegram.proofs.ReadAgain.{read_again}
use Rattle.telegram.proofs.Refusals.{accepted-written, packet-accepted}
use Rattle.desk.specs.Desks.{base_rest as eight, packet_of}
use Rattle.listener.specs.Answers.{Hearing}
use Rattle.listener.specs.Listeners.{carries}
use Rattle.listener.proofs.Fresh.{zeros-fresh}
use Rattle.claims.specs.Hearings.{Item}
use Rattle.claims.specs.Demand3.{fleet_binding, LostOrRepeated, TheFunctions, Demand3}
use Rattle.claims.proofs.Claimed.{Claim, claimed}
use Rattle.claims.proofs.Ends.{ReadsBack}
use Rattle.claims.proofs.History.{calls_made}
use Rattle.claims.proofs.Regular.{regular}

functions : TheFunctions
unfolding packet_of
functions =
    record {
      desk_begins = λ κs handed desk lasts p. p;
      accepts = λ κs handed answer lasts p. p;
      made = calls_made;
      writes = λ κs (desk, (packet, (buffer, _))) answer lasts p accepted. p.1 ∙ accepted-written (packet_of desk packet) buffer.now (sym p.0 ∙ ruling_apart (verdict_in answer) verdict_accepted accepted);
      writes_five = λ κs (desk, (packet, (buffer, _))) verdict lasts p low high long. ap ruling_of (p.0 ∙ packet-accepted (packet_of desk packet) buffer.now low high long);
      listener_begins = λ κs handed listener lasts p. p;
      hears = λ κs handed heard lasts p. p;
      fresh_memory = zeros-fresh;
      hears_lent = λ κs handed answer lasts p. (ap (λ (h : Hearing). h.told) p.meant, ap (λ (h : Hearing). h.listener) p.meant);
    }

-- the fleet's bytes are read back
bytes_back : ReadsBack fleet_binding
bytes_back t sendable u = read_again t sendable

claim : (calls : List (List ℕ)) (heard : List (Item (List ℕ))) → LostOrRepeated calls heard → Claim eight carries fleet_binding calls heard
claim calls = claimed eight carries (omega arith) (omega arith) fleet_binding bytes_back calls

pub demand3 : Demand3
demand3 =
    record {
      functions = functions;
      picture = λ calls heard premises. (claim calls heard premises).picture;
      carried = λ calls heard premises. (claim calls heard premises).carried;
      right = λ calls heard premises. (claim calls heard premises).right;
      last = λ calls heard premises. (claim calls heard premises).last;
      answered = λ calls heard premises. (claim calls heard premises).answered;
      met = λ calls. regular eight carries fleet_binding calls (λ t. tt);
    }
