-- The console that the calls act on: the machine, four clients, and whose response awaits confirmation.
use Rattle.std.specs.Prelude.{ℕ, Bool, false, cond, not, ltb, pos, get_or, set, replicate, Option, None, Result, Ok, Err}
use Rattle.record.specs.declared.refusal.Refusal.{Refusal}
use Rattle.record.specs.declared.refusal.Refusal.TheVariants.{ClientAboveThree, ConnectionMismatch}
use Rattle.service.specs.declared.control.Client.{Client}
use Rattle.service.specs.declared.control.Console.{Console}
use Rattle.service.specs.declared.control.machine.Setup.{Setup}
use Rattle.service.specs.declared.control.machine.Machine.{Machine}
use Rattle.service.specs.Control.Machine.{fresh}

-- a client that is not connected
abbrev pub absent : Client
absent = record { connected = false; indicating = false }

module _ (k : Console) (c : ℕ) where
  abbrev pub client_at : Client
  client_at = get_or k.clients c absent

  abbrev pub is_connected : Bool
  is_connected = client_at.connected

  abbrev pub is_indicating : Bool
  is_indicating = client_at.indicating

  -- "10: client above 3", then "17: client not connected": the state of a client that is connected
  abbrev pub connected : Result Client Refusal
  connected = cond (ltb 3 c) (Err ClientAboveThree) (cond (not is_connected) (Err ConnectionMismatch) (Ok client_at))

  -- the console with a new state of a client
  abbrev pub with_client : Client → Console
  with_client x = record { machine = k.machine; clients = set k.clients c x; awaited = k.awaited }

-- a response awaits this client's confirmation, or nobody's
abbrev pub awaiting : Console → Option ℕ → Console
awaiting k w = record { machine = k.machine; clients = k.clients; awaited = w }

-- "At first it is stopped, no client is connected, nobody holds control, and every setting is zero."
abbrev pub first : Setup → Console
first s = record { machine = fresh s; clients = replicate 4 absent; awaited = None }

-- the console with a new state of its machine
abbrev pub with_machine : Console → Machine → Console
with_machine k m = record { machine = m; clients = k.clients; awaited = k.awaited }

-- the console in a reply that refuses to open one: no target setting, and each number of its ranges and target speeds is 0
abbrev pub closed : Console
closed = first (record {
  feature = record { features = 0; targets = 0 };
  ranges = record {
    speed = record { least = 0; greatest = 0; increment = 0 };
    inclination = record { least = pos 0; greatest = pos 0; increment = 0 };
    resistance = record { least = pos 0; greatest = pos 0; increment = 0 };
    power = record { least = pos 0; greatest = pos 0; increment = 0 };
    heart_rate = record { least = 0; greatest = 0; increment = 0 };
  };
  speeds = record { low = 0; high = 0 };
})
