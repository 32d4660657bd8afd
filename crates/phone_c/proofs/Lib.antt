pub mod HostOnce
